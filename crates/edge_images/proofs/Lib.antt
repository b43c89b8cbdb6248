pub mod LawsLeading
mod Crossing
mod Saying
mod Leaving
mod Noting
mod Whole
