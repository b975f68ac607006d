pub mod Common
mod Days
mod Fitting
mod InC
mod ByLines
mod InAnyOrder
