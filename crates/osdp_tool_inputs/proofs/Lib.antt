pub mod Common
pub mod Printables
pub mod Cutting
pub mod Stamps
pub mod Held
pub mod Fronts
pub mod Following
pub mod RunPlaces
pub mod Timed
pub mod Retelling
pub mod Telling
pub mod Echoing
pub mod OneByOne
pub mod WholeText
mod OneTask
