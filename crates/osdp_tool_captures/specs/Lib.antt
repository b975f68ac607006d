pub mod Digits
pub mod Lines
pub mod Captures
pub mod Marks
pub mod Hints
pub mod Whole
pub mod Laws
