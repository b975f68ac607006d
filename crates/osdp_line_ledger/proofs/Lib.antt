pub mod Each
pub mod Devices
