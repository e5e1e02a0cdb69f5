pub mod Order
pub mod Assigns
pub mod Commute
