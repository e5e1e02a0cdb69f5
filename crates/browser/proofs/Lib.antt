pub mod Starting
pub mod Arriving
