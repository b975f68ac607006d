pub mod Settings
pub mod Wrong
pub mod Values
pub mod Laws
