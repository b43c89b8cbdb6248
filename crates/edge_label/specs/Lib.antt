pub mod Fills
pub mod Indices
pub mod Known
pub mod Numbers
pub mod Stored
pub mod Structs
pub mod Tables
pub mod Uses
