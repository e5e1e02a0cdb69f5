pub mod Slots
pub mod Rows
pub mod Places
pub mod Table
