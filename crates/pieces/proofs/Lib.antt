pub mod Fronts
pub mod Inside
pub mod Reading
