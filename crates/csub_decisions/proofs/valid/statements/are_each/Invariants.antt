use Rattle.std.proofs.Common.{ℕ, ◌<◌, get_or}
use Rattle.csub_semantics.specs.declared.function.RPart.{RPart}
use Rattle.csub_semantics.specs.Syntax.{part_tree, function_tree}
use Rattle.csub_validity.specs.Valid.{IsPart}
use Rattle.csub_decisions.specs.Checks.{tree_of}
use Rattle.csub_decisions.proofs.valid.statements.are_each.Given as goal

abbrev pub invariant-loop-part : goal.invariant-loop-part
invariant-loop-part l =
    (k : ℕ) (d : RPart) → k < l.part-index → IsPart (tree_of l.program) (function_tree l.function) l.role (part_tree (get_or l.parts k d))
