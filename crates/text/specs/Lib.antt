pub mod Fill
pub mod Answers
pub mod Laws
