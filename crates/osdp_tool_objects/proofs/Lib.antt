pub mod Common
pub mod Lines
pub mod Counts
pub mod Outputs
