pub mod Record
pub mod Causes
pub mod Files
pub mod Choices
pub mod Steps
