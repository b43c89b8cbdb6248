use Rattle.std.proofs.Common.{ℕ, ◌<◌, get_or}
use Rattle.csub_semantics.specs.declared.function.Function.{Function}
use Rattle.csub_semantics.specs.Syntax.{function_tree}
use Rattle.csub_validity.specs.Valid.{HasOwnNames}
use Rattle.csub_decisions.specs.Checks.{OfObjects}
use Rattle.csub_decisions.proofs.names.functions_are_own.Given as goal

abbrev pub invariant-loop-function : goal.invariant-loop-function
invariant-loop-function l = (k : ℕ) (d : Function) → k < l.function-index → OfObjects HasOwnNames (function_tree (get_or l.functions k d))
