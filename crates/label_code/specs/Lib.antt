pub mod Bare
pub mod Codes
pub mod ReadBack
pub mod Readers
pub mod Uses
