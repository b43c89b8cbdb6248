pub mod Draws
pub mod Functions
pub mod Pairs
