pub mod Outputs
pub mod DoorRules
pub mod Laws
