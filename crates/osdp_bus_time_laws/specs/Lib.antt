pub mod Clock
pub mod Turns
pub mod Laws
pub mod Reading
pub mod Telling
pub mod Instances
