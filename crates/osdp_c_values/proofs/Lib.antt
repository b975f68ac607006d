pub mod Common
pub mod AllTold
pub mod Bursts
pub mod Putting
mod SlotForms
mod Slots
pub mod Texts
pub mod Turns
pub mod Words
