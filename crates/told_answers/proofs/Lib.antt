mod CompleteLemmas
mod ToldLemmas
mod TopLemmas
