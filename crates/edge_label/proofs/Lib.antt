pub mod LawsNumbers
mod CodeLemmas
mod Filling
mod KnownLemmas
mod ListLemmas
mod BookLemmas
mod IndexLemmas
mod StructLemmas
mod TableLemmas
