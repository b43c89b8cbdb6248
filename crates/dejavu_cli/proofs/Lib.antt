mod CompleteLemmas
mod OpenLemmas
mod TopLemmas
