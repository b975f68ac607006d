pub mod Pacing
pub mod Places
pub mod InTime
pub mod Instances
pub mod Ended
pub mod Rooms
