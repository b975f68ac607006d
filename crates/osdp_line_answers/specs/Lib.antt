pub mod Answers
pub mod Steps
pub mod Ending
pub mod Laws
