pub mod Options
pub mod Laws
