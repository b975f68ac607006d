pub mod Spelled
pub mod Queue
pub mod Replies
pub mod State
pub mod Parts
pub mod Table
pub mod Heard
