mod ClaimLemmas
mod EntryLemmas
mod ExactLemmas
mod LawLemmas
mod MadeLemmas
mod SearchLemmas
mod VerdictLemmas
mod WalkLemmas
