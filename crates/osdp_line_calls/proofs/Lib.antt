pub mod Common
pub mod ReaderRows
pub mod ReaderTurns
pub mod ReaderCalls
pub mod LettingGo
pub mod PanelRows
mod Until
pub mod PanelCalls
pub mod Telling
mod Listening
pub mod PassedOver
pub mod Ranges
pub mod Running
