pub mod Fitting
pub mod Going
pub mod Filling
pub mod Written
pub mod Whole
