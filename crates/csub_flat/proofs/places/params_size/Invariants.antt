use Rattle.csub_flat.specs.Frames.{as_object}
use Rattle.csub_flat.proofs.Passing.{HasSize}
use Rattle.csub_flat.proofs.places.params_size.Given as goal

abbrev pub invariant-loop-param : goal.invariant-loop-param
invariant-loop-param l = HasSize as_object l.params l.param-index l.size
