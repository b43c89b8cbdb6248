pub mod Layout
pub mod Begins
pub mod Memory
pub mod Acts
pub mod Like
pub mod Numbered
pub mod Seen
pub mod States
