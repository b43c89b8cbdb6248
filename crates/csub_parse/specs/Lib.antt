pub mod UnitDescent
pub mod Syntax
