pub mod CommandTexts
pub mod Texts
pub mod Reads
pub mod Outcomes
