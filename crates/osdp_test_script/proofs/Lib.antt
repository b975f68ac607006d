pub mod Common
mod Chained
mod LineRows
mod Names
mod OneAnswer
mod Passing
mod Rows
mod Trying
mod WordTexts
