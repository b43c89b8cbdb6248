pub mod LawsOrder
pub mod LawsSites
pub mod LawsSized
pub mod LawsRows
pub mod LawsThreads
mod Objects
mod Sized
mod Arguments
mod Members
mod Stages
mod Standing
mod Slots
mod Passing
mod Lookups
mod Indexes
mod Callees
mod Programs
mod Pushed
mod WayLemmas
mod Choices
mod Writes
