pub mod Common
mod JobLemmas
mod Choosing
mod OneTopic
pub mod Names
pub mod Orders
pub mod Ordered
pub mod Printing
mod InTurn
