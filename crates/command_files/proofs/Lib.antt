pub mod LawsChoices
pub mod LawsEntries
pub mod LawsFiles
pub mod LawsRefusals
mod Entries
mod Reading
mod Safety
