pub mod Deciding
pub mod Meaning
