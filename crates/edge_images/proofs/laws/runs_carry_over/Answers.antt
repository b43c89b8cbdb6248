use Rattle.edge_images.proofs.Crossing.{carried_over}
use Rattle.edge_images.proofs.laws.runs_carry_over.Goals as goal

pub returns : goal.returns
returns c P P' valid valid' = carried_over P P' (c.lockstep.ensures.runs P P' valid valid')
