mod Capped
mod Keys
pub mod LawsMembers
pub mod LawsParts
pub mod LawsThreads
pub mod LawsTypes
mod ListLemmas
mod Numbered
