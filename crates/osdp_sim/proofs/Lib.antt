pub mod Common
pub mod Bursts
pub mod Keeping
pub mod Schedules
pub mod Sent
