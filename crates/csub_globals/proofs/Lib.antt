pub mod LawsLists
mod Starts
mod Zeros
