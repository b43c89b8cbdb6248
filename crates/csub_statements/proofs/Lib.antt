pub mod LawsResolvable
mod Lines
