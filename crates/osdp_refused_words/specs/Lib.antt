pub mod Laws
pub mod Messages
pub mod Slots
pub mod Stops
