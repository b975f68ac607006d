pub mod Common
pub mod Cutting
pub mod Keeping
pub mod Rows
pub mod Lines
pub mod Judging
pub mod Passing
pub mod InTurn
pub mod Settings
pub mod Switching
pub mod OneLine
pub mod OneScript
pub mod PrintedLine
pub mod ReadBack
mod OneRest
