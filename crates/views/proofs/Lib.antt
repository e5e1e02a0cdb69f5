pub mod Fronts
pub mod Listing
