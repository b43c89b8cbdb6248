pub mod Lengths
pub mod Depths
