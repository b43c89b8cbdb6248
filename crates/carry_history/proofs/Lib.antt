mod StayLemmas
mod MoveLemmas
mod LayLemmas
mod RecordLemmas
