pub mod Working
pub mod Alike
