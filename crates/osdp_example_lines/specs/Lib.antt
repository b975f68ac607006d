pub mod Due
pub mod Lines
