pub mod LawsLists
pub mod LawsOnce
pub mod LawsPlaces
pub mod LawsThreads
mod Rows
mod Emitted
mod Lengths
mod Table
mod FirstPlaces
mod CasePlaces
mod Listed
mod Numbering
mod Distinct
mod Whole
mod EdgePlaces
mod Looked
