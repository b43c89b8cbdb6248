use Rattle.std.proofs.Common.{ℕ, ◌<◌, ◌≡◌, false, get_or}
use Rattle.csub_semantics.specs.declared.function.RPart.{RPart}
use Rattle.csub_semantics.specs.Syntax.{part_tree}
use Rattle.csub_validity.specs.Valid.{declares}
use Rattle.csub_decisions.proofs.valid.statements.declare_nothing.Given as goal

abbrev pub invariant-loop-part : goal.invariant-loop-part
invariant-loop-part l = (k : ℕ) (d : RPart) → k < l.part-index → declares (part_tree (get_or l.parts k d)) ≡ false
