pub mod LawsLists
pub mod LawsReaching
pub mod LawsNumbers
pub mod LawsFacts
pub mod LawsRest
mod SetBits
mod PairLemmas
mod RowLemmas
mod Declaring
mod Labelling
mod Asked
mod Explaining
mod Following
mod Counting
mod Resting
mod Tagging
