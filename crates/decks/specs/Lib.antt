pub mod Model
pub mod ActiveLaw
pub mod Allowances
pub mod Views
pub mod Handed
pub mod Walk
pub mod Words
