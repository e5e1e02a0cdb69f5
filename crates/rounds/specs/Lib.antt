pub mod Asks
pub mod Replies
pub mod Answered
pub mod Whole
pub mod Alike
pub mod Handhelds
