pub mod Figures
pub mod Instances
pub mod Passed
pub mod PassedOrders
pub mod Hostile
