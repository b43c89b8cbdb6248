use Rattle.csub_semantics.specs.Syntax.{local_tree}
use Rattle.csub_flat.proofs.Passing.{HavePlaces}
use Rattle.csub_flat.proofs.frame.add_locals.Given as goal

abbrev pub invariant-loop-i : goal.invariant-loop-i
invariant-loop-i l = HavePlaces local_tree l.locals l.i l.slot l.behind l.fn.slots l.slots
