-- Lemmas on exclusive or and long division, and what they say of the CRC.

pub mod Common
pub mod Xor
pub mod Remainder
pub mod Pieces
pub mod Entries
pub mod Places
pub mod Sums
