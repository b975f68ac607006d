pub mod Common
pub mod Runs
pub mod Waiting
pub mod Defaults
pub mod Telling
pub mod Remembering
