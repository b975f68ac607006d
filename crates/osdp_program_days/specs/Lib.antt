pub mod Days
pub mod Happening
pub mod InC
pub mod ByLines
pub mod InAnyOrder
