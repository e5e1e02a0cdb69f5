pub mod Alls
pub mod Tabling
pub mod Laws
