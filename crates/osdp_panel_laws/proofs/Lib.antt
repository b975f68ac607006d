mod Making
mod Equal
mod Written
pub mod Calling
pub mod Ahead
pub mod Tallies
mod Standing
mod FromLine
mod Giving
mod Outcome
mod NeverSent
mod Expired
mod InTime
mod Forever
mod Numbers
