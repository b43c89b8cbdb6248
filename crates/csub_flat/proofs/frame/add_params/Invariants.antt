use Rattle.csub_flat.specs.Frames.{as_object}
use Rattle.csub_flat.proofs.Passing.{HavePlaces}
use Rattle.csub_flat.proofs.frame.add_params.Given as goal

abbrev pub invariant-loop-i : goal.invariant-loop-i
invariant-loop-i l = HavePlaces as_object l.params l.i l.slot l.behind l.fn.slots l.slots
