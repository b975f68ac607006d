pub mod Either
pub mod Mixed
