pub mod Common
pub mod Along
pub mod Finding
pub mod Taking
pub mod Telling
pub mod Judged
pub mod Rows
pub mod Parts
mod FormWords
pub mod ByLines
pub mod InTurn
pub mod Once
pub mod OneLine
pub mod OneReport
mod ByRows
mod Places
mod Lists
