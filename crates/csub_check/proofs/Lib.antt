mod Counts
mod Same
mod Steps
