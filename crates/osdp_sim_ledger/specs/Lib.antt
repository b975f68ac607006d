pub mod Telling
pub mod OneReader
pub mod SeveralReaders
