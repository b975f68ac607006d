pub mod Answers
pub mod Ending
pub mod InTurn
pub mod Unread
