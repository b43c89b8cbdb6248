pub mod Causes
pub mod Faults
pub mod Rules
pub mod Suites
pub mod Tests
