pub mod Records
pub mod Tests
pub mod Meaning
pub mod Verdict
pub mod Words
