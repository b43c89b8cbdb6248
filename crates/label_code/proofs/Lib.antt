mod NameLemmas
mod WriteLemmas
