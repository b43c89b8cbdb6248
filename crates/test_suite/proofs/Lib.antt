mod CauseLemmas
mod LineLemmas
mod NameLemmas
mod SuiteLemmas
mod Threads
mod WordLemmas
