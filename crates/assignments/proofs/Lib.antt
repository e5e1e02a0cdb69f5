pub mod Alls
pub mod Loops
pub mod Adding
