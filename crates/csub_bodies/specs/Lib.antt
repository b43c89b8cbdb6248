pub mod Views
pub mod Switches
