use Rattle.suite_run.specs.Parts.{Joins}
use Rattle.suite_run.proofs.parts.join_parts.Given as goal

abbrev pub invariant-loop-part : goal.invariant-loop-part
invariant-loop-part l = Joins l.yielded l.entries.items
