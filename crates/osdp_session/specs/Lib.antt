pub mod Runs
pub mod SeveralReaders
