pub mod LawsLabels
pub mod LawsLists
pub mod LawsRows
pub mod LawsThreads
