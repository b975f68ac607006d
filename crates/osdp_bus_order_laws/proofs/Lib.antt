pub mod Common
pub mod Hearing
pub mod Devices
pub mod Calls
pub mod Counting
pub mod Along
pub mod Flags
mod Leaving
pub mod InTime
pub mod SlowOrder
pub mod Ending
pub mod Exactly
mod Rooms
