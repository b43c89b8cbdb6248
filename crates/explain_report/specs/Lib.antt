pub mod WalkTexts
pub mod Walks
pub mod Trims
pub mod Explanations
pub mod Marks
pub mod Parts
pub mod Dangers
