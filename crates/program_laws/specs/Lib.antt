pub mod Outcomes
pub mod Flows
pub mod Lost
pub mod Bounds
pub mod Decided
pub mod Numbered
