pub mod Common
pub mod Each
pub mod Rows
pub mod Parts
mod OneLine
mod ByRows
mod TheLine
