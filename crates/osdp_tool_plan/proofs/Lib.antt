pub mod Common
mod InTurn
mod OneLine
mod OneSetting
mod Ranges
mod Refused
