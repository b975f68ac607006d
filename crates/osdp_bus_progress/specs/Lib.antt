pub mod SeveralLinks
pub mod Progress
pub mod Resting
pub mod RowsOfRounds
pub mod RowsAfterLosses
pub mod RowsOfTaken
pub mod RowsOfTurns
pub mod Laws
