pub mod Moments
pub mod Crossed
pub mod Flat
pub mod Standings
