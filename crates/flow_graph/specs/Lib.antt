pub mod Numbers
pub mod Jumps
pub mod Cases
pub mod Names
pub mod Graph
