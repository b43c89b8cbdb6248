pub mod Scopes
pub mod Codes
pub mod Meanings
pub mod Places
pub mod Chains
