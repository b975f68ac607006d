pub mod Programs
pub mod OwnOrder
pub mod PanelWords
