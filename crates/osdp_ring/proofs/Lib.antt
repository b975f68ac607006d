pub mod Common
pub mod Cuts
