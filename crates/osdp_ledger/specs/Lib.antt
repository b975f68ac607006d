pub mod Ledger
pub mod History
pub mod Laws
pub mod Plain
pub mod OneSession
pub mod Offering
pub mod Restarts
pub mod Instance
