pub mod Laws
mod Lapses
pub mod Runs
pub mod Sessions
mod Without
mod GivenBack
pub mod Reports
pub mod Beginning
pub mod OneSession
pub mod Counting
