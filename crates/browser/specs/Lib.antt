pub mod Meaning
pub mod Calls
pub mod Answers
pub mod Copying
