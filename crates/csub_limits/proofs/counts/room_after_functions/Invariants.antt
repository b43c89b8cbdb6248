use Rattle.std.proofs.Common.{◌≡◌, ◌+◌, sum_by, take}
use Rattle.csub_semantics.specs.Syntax.{function_tree}
use Rattle.csub_limits.specs.Counts.{count_function}
use Rattle.csub_limits.proofs.counts.room_after_functions.Given as goal

abbrev pub invariant-loop-function : goal.invariant-loop-function
invariant-loop-function l =
    l.room + sum_by (λ f. count_function l.measure (function_tree f)) (take l.function-index l.functions) ≡ l.most
