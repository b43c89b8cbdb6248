pub mod LawsTrims
mod EdgeLemmas
mod WalkLemmas
mod Places
mod MarkLemmas
mod PartLemmas
mod TrimLemmas
mod ReachLemmas
mod BookLemmas
mod ShownLemmas
mod ToldLemmas
mod PartnerLemmas
mod FollowLemmas
mod BackLemmas
mod ExplainLemmas
