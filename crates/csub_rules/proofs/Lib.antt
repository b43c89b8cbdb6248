pub mod LawsEarlier
pub mod LawsServed
pub mod LawsSizes
pub mod LawsSound
pub mod LawsLeast
pub mod LawsCalls
pub mod LawsFine
pub mod LawsUses
pub mod LawsSlots
pub mod LawsInits
pub mod LawsParams
pub mod LawsLocals
pub mod LawsCases
pub mod LawsStmts
pub mod LawsFineStmts
pub mod LawsBodies
pub mod LawsNames
pub mod LawsObjects
pub mod LawsStructs
pub mod LawsEnums
pub mod LawsHeads
pub mod LawsItems
pub mod LawsUnits
pub mod LawsFineItems
mod RowTerms
mod Rows
mod RowFaults
