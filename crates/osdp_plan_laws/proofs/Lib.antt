pub mod Common
pub mod Figures
mod Orders
pub mod Instances
pub mod Passed
pub mod PassedOrders
mod Hostile
