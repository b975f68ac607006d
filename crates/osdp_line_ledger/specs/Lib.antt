pub mod Laws
pub mod Devices
