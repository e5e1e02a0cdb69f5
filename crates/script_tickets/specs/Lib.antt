pub mod Unlanded
