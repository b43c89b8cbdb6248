pub mod Prints
pub mod Limits
pub mod Counts
pub mod Views
