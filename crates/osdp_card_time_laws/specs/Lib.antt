pub mod Beside
pub mod Cards
pub mod Readers
pub mod Instances
pub mod Among
pub mod Between
pub mod SlowCard
