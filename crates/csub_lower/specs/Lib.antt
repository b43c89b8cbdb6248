pub mod Calls
pub mod Definitions
pub mod Formats
pub mod Made
pub mod Sizes
