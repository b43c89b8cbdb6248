pub mod Images
pub mod Crossings
pub mod Partly
