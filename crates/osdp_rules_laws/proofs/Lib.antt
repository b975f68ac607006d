pub mod Common
pub mod Fine
pub mod Replies
pub mod Reading
pub mod Meeting
pub mod Steps
pub mod Along
pub mod Open
mod Claims
mod Shares
mod Delaying
mod Counting
mod Deciding
mod Taking
mod Turns
mod Judges
mod Answering
mod Placing
mod Verdicts
mod CapBytes
mod CapsAlong
mod CapFindings
mod CapBeyond
mod Claiming
mod Own
mod Instances
