pub mod Common
mod Telling
mod OneReader
mod SeveralReaders
