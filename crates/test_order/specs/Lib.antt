pub mod Counts
pub mod OrderTexts
pub mod Orders
