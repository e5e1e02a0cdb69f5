pub mod Short
pub mod Taking
