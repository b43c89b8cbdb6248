use Rattle.csub_semantics.specs.Syntax.{local_tree}
use Rattle.csub_flat.proofs.Passing.{HasSize}
use Rattle.csub_flat.proofs.places.locals_size.Given as goal

abbrev pub invariant-loop-local : goal.invariant-loop-local
invariant-loop-local l = HasSize local_tree l.locals l.local-index l.size
