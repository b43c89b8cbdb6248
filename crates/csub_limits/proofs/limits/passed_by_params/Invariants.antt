use Rattle.std.proofs.Common.{◌≡◌, map, drop, length}
use Rattle.csub_semantics.specs.Syntax.{FunctionTree, function_tree}
use Rattle.csub_validity.specs.Valid.{most_parameters}
use Rattle.csub_limits.specs.Limits.{passed}
use Rattle.csub_limits.proofs.limits.passed_by_params.Given as goal

-- none of the functions so far has too many parameters
abbrev pub invariant-loop-function : goal.invariant-loop-function
invariant-loop-function l =
    passed 6 most_parameters (map (λ (f : FunctionTree). length f.params) (map function_tree l.functions)) ≡ passed 6 most_parameters (map (λ (f : FunctionTree). length f.params) (map function_tree (drop l.function-index l.functions)))
