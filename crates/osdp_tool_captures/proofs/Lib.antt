pub mod Cutting
pub mod Zeros
pub mod AsFar
pub mod Marks
pub mod Utf16
