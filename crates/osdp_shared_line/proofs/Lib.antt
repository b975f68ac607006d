pub mod Common
pub mod Sites
pub mod Hearing
pub mod Moving
pub mod Lists
pub mod Controllers
pub mod Readers
pub mod Apart
pub mod Changing
pub mod Delivering
pub mod Running
pub mod Linking
pub mod Storing
pub mod Telling
pub mod Still
pub mod Reading
pub mod Rounds
mod FirstRounds
mod TwoStations
pub mod Openings
pub mod Noting
pub mod Ruling
pub mod Saying
pub mod Ruled
pub mod Restarting
mod LeftAlone
pub mod Doing
