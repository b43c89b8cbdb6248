pub mod Types
pub mod Paths
pub mod Parts
pub mod Codes
pub mod Meaning
pub mod Falls
pub mod Names
