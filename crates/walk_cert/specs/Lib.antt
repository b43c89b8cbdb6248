pub mod Pairs
pub mod Claims
pub mod Verdicts
pub mod Made
pub mod Entries
