use Rattle.carry_history.proofs.RecordLemmas.{carries_records}
use Rattle.carry_history.proofs.laws.carried_is_recorded.Goals as goal

pub returns : goal.returns
returns c P P' valid valid' = carries_records P P' (c.runs_carry_over.ensures P P' valid valid')
