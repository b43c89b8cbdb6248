mod ReachedClosed
mod Agreeing
mod Evaluating
mod Initialising
mod Acting
mod EveryLabel
mod Covering
mod Turns
mod Together
mod Respecting
pub mod LawsCalls
pub mod LawsWalks
mod Marking
mod Entering
