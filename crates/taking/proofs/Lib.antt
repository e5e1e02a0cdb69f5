pub mod Filling
pub mod Gathering
pub mod Leading
