pub mod Names
pub mod Short
pub mod Texts
pub mod Written
