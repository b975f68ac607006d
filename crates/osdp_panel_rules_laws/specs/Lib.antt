pub mod Before
pub mod Breaks
pub mod Runs
pub mod Laws
pub mod Instances
