pub mod Ending
pub mod Laws
pub mod Settings
pub mod Text
