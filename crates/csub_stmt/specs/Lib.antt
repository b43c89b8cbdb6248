pub mod Openings
pub mod DeclarationDescent
pub mod StatementDescent
