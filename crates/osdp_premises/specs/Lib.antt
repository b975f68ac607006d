pub mod Deciding
pub mod Exactly
pub mod Ruling
pub mod Leaving
pub mod Strangers
pub mod LongDay
pub mod SharedAddress
