mod MomentLemmas
mod EdgeLemmas
mod RowLemmas
mod WholeLemmas
mod Switches
mod Turns
mod Moves
mod Direct
