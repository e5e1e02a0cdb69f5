pub mod Cuts
pub mod Runs
pub mod Parts
pub mod Decks
pub mod Schemes
pub mod Grammar
