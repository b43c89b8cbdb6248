mod Beginnings
mod LineLemmas
