pub mod LawsReruns
mod ExplainLemmas
