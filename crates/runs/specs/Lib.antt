pub mod Entry
pub mod Run
pub mod Entries
pub mod Spot
