pub mod Arguments
pub mod Scans
pub mod Seen
