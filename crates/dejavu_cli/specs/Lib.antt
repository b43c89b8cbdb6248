pub mod Reads
pub mod Texts
pub mod Causes
pub mod Statuses
pub mod Answers
pub mod Complete
