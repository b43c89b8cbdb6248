pub mod Carried
pub mod Recorded
pub mod Laid
