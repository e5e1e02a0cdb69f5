pub mod Order
pub mod Vars
pub mod Limits
pub mod Lawful
