pub mod LawsExits
