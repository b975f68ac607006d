pub mod Saying
pub mod Known
pub mod Findings
pub mod Judging
pub mod Line
