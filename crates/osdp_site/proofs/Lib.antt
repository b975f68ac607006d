pub mod Common
pub mod Wanting
pub mod Submitting
pub mod States
pub mod Fitting
pub mod Online
pub mod Begins
pub mod Latest
pub mod Given
pub mod Beginning
pub mod Acting
mod Stepping
