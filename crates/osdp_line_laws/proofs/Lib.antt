pub mod Common
pub mod Lines
mod Reports
pub mod OfPanels
pub mod OfReaders
pub mod PanelRuns
pub mod ReaderRuns
mod OneSession
mod Openness
mod Beside
mod OldEvents
mod Moments
mod Commands
