pub mod Views
pub mod Gathered
