pub mod Acceptance
pub mod Bounds
pub mod Clock
pub mod Instances
pub mod Laws
pub mod Lines
pub mod Orders
