pub mod Layers
pub mod Told
pub mod Words
