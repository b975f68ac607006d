pub mod Laws
pub mod Lapses
pub mod Runs
pub mod Sessions
pub mod Reports
