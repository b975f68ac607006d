pub mod Common
pub mod Stopping
pub mod Filling
mod Parts
mod CommandRows
mod ReplyRows
mod RecordWords
pub mod Places
mod Taking
