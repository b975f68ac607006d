pub mod Storing
pub mod Answering
pub mod Waiting
