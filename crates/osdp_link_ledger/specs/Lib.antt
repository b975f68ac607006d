pub mod Steps
pub mod Laws
pub mod Acted
pub mod Telling
pub mod Answers
pub mod Ordinary
pub mod Instance
