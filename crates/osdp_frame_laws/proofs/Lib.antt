pub mod Common
pub mod LawsOfSpellings
pub mod OneByOne
pub mod Readings
pub mod LeftOver
pub mod InTurn
pub mod Calls
pub mod Silences
