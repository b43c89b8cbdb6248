pub mod Files
pub mod Held
pub mod Texts
pub mod Causes
pub mod Answers
pub mod Complete
