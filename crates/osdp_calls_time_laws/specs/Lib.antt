pub mod Moments
pub mod Laws
pub mod Deciding
pub mod Instance
pub mod Reading
pub mod OwnOrder
