pub mod Common
pub mod Speaking
pub mod Stopping
pub mod AnsweringLines
pub mod EachLine
