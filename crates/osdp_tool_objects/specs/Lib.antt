pub mod Cuts
pub mod Members
pub mod Objects
pub mod Streams
pub mod Outputs
pub mod Laws
