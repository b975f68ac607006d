pub mod Common
pub mod Added
pub mod Heard
mod OneAnswer
mod MadeAlike
mod MonitorAnswers
