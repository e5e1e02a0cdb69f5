pub mod Escape
pub mod Unescape
pub mod SinkLaws
pub mod Counting
pub mod Writing
