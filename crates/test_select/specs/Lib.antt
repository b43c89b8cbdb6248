pub mod SelectTexts
pub mod Selection
