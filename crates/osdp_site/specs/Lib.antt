pub mod States
pub mod Places
pub mod Acting
pub mod Sites
pub mod Laws
pub mod Beginning
pub mod Latest
