pub mod Presence
pub mod Cards
