pub mod Common
mod Entries
pub mod Programs
mod OwnOrder
mod PanelWords
