use Rattle.std.proofs.Common.{ℕ, ◌<◌, get_or}
use Rattle.csub_semantics.specs.declared.function.Function.{Function}
use Rattle.csub_semantics.specs.Syntax.{function_tree}
use Rattle.csub_decisions.specs.Checks.{tree_of}
use Rattle.csub_decisions.specs.ProgramChecks.{IsFunction}
use Rattle.csub_decisions.proofs.valid.are_functions.Given as goal

abbrev pub invariant-loop-function : goal.invariant-loop-function
invariant-loop-function l =
    (k : ℕ) (d : Function) → k < l.function-index → IsFunction (tree_of l.program) (function_tree (get_or l.program.functions.now k d))
