pub mod Instance
pub mod TwoEntries
pub mod Rule
pub mod OwnCalls
pub mod Panels
pub mod LinePrograms
pub mod CPrograms
pub mod Fitting
