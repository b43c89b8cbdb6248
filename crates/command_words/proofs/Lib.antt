mod NumberLemmas
mod Steps
mod Cuts
mod Classes
mod Walks
mod RestLemmas
mod NameLemmas
