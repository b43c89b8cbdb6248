pub mod LawsNames
pub mod LawsNodes
pub mod LawsSwitches
pub mod LawsStanding
pub mod LawsWays
pub mod LawsFlows
pub mod LawsOutcomes
pub mod LawsLabels
pub mod LawsGlobals
mod Lists
mod Turns
mod Written
mod Decided
mod Numbered
