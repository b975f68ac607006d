pub mod Links
pub mod Premises
