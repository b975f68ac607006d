-- How tests write bytes, and what a packet with its check anew is.

pub mod Checked
pub mod Spelled
