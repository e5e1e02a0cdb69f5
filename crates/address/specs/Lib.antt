pub mod Bytes
pub mod Address
pub mod Resolve
pub mod Layout
pub mod Meaning
pub mod Grammar
