mod JoinLemmas
mod RunLemmas
mod Zips
