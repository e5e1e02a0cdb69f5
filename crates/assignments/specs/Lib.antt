pub mod Joint
pub mod Unsetting
pub mod Pairs
pub mod Listed
pub mod Laws
