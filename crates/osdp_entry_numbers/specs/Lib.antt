pub mod Numbers
pub mod OwnOrder
pub mod Promises
pub mod Including
pub mod Day
