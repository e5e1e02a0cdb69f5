pub mod Recovering
pub mod Likeness
pub mod Staying
