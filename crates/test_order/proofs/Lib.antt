mod DeterminedLemmas
mod FirstLemmas
mod GainLemmas
mod OrderLemmas
mod TurnLemmas
mod WaitingLemmas
