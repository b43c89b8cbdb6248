pub mod LawsLists
