pub mod Recorded
pub mod Select
pub mod Rerun
pub mod Explain
pub mod Generated
pub mod Made
pub mod Steps
