use Rattle.call_walk.proofs.Acting.{acts_are_local}
use Rattle.call_walk.proofs.laws.locality.Goals as goal

pub returns : goal.returns
returns c = acts_are_local
