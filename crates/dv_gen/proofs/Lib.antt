mod DrawLemmas
mod PairLemmas
mod SuiteLemmas
mod TestLemmas
mod TextLemmas
