pub mod Shared
pub mod Locality
pub mod Lockstep
pub mod Walks
pub mod Danger
