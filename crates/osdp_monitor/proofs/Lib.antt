pub mod Common
pub mod Bare
pub mod Blocks
pub mod Passing
pub mod Turns
