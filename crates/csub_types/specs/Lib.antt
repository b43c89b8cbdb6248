pub mod Kinds
pub mod Settled
pub mod Division
pub mod Shifts
pub mod Arithmetic
