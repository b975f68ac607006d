pub mod Calls
pub mod Offline
