use Rattle.std.proofs.Common.{ℕ, ◌+◌, ◌<◌, slice_index_or}
use Rattle.csub_semantics.specs.declared.function.RCall.{RCall}
use Rattle.csub_semantics.specs.Labels.{call_tree}
use Rattle.csub_semantics.specs.Syntax.{part_tree, function_tree}
use Rattle.csub_validity.specs.Valid.{scope_of, IsCall}
use Rattle.csub_decisions.specs.Checks.{tree_of}
use Rattle.csub_decisions.proofs.calls.are_calls.Given as goal

abbrev pub invariant-loop-i : goal.invariant-loop-i
invariant-loop-i l =
    (k : ℕ) (d : RCall) → k < l.i → IsCall (tree_of l.program) (scope_of (tree_of l.program) (function_tree l.function) (part_tree l.part)) l.function.temps (k + 1) (call_tree (slice_index_or l.calls k d).label)
