pub mod Checks
pub mod ProgramChecks
