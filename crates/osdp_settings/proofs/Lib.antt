pub mod Common
mod FirstWrong
pub mod Reading
mod Once
mod Saying
