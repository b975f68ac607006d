pub mod Common
mod Keeping
mod Expiring
