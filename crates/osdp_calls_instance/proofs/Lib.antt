pub mod Common
mod Keeping
pub mod OwnCalls
pub mod Panels
pub mod LinePrograms
pub mod CPrograms
mod RunAnew
mod Fitting
