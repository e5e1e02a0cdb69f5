pub mod Allowed
pub mod Places
