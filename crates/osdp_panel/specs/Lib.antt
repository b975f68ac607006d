pub mod Orders
pub mod Giving
pub mod Telling
pub mod Sending
pub mod Deadlines
pub mod Panels
pub mod Kept
