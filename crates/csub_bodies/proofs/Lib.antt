pub mod LawsGrows
pub mod LawsTrees
mod Counted
mod Loops
mod Switching
mod Collecting
