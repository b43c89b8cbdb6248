pub mod LawsFrames
pub mod LawsBegins
pub mod LawsActs
pub mod LawsBounds
mod Cells
mod Numbered
mod Plain
mod Layouts
mod Places
mod Parts
mod Writes
mod Evals
mod Memories
mod Copied
mod Fills
mod Clears
mod Initials
mod Texts
