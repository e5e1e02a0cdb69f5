pub mod Rests
pub mod Walking
pub mod Kept
pub mod Finding
pub mod Offering
pub mod Carding
