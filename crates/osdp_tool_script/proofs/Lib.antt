pub mod Running
mod InTurn
mod Unread
