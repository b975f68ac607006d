pub mod Common
pub mod OnItsWay
pub mod Tables
pub mod Stages
pub mod Lines
pub mod Numbers
pub mod Parts
pub mod Acting
pub mod Taking
pub mod Ticks
pub mod Hearing
pub mod Since
pub mod Coming
pub mod Advancing
pub mod Moves
pub mod Deliveries
pub mod Restarts
pub mod Telling
pub mod Once
pub mod Controllers
pub mod Devices
pub mod Counting
pub mod InARow
pub mod OrdinaryRuns
pub mod GivenAnswers
pub mod Reports
pub mod Refusals
pub mod Endings
pub mod Ahead
pub mod Leaving
mod Forgetting
pub mod Due
pub mod Settling
pub mod Answering
pub mod Round
pub mod Exchanges
pub mod Rounds
pub mod Through
pub mod InTime
pub mod Resting
pub mod OneDevice
pub mod ToldMoved
pub mod Clean
pub mod Addresses
mod AskedMoves
mod MovesFitting
pub mod Doing
mod Lapsing
mod HearingOn
