pub mod Moves
pub mod Accounts
pub mod Progress
pub mod Accepted
pub mod Clean
pub mod OneLink
pub mod Begun
pub mod Resting
