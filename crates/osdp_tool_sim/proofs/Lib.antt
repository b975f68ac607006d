pub mod Common
pub mod ReadWhole
pub mod Stopped
pub mod Running
pub mod Counting
pub mod Accounts
pub mod Ended
pub mod Finishing
pub mod Ranges
pub mod Written
pub mod OneText
pub mod OneAccount
mod InTurn
