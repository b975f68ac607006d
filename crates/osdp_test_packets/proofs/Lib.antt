pub mod Ending
pub mod Spelling
