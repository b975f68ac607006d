pub mod State
pub mod Steps
pub mod Runs
pub mod Room
pub mod Laws
