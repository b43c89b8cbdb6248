use Rattle.std.proofs.Common.{◌≡◌, map, drop}
use Rattle.csub_semantics.specs.Syntax.{function_tree}
use Rattle.csub_semantics.specs.Flows.{function_in}
use Rattle.csub_decisions.proofs.calls.find_function.Given as goal

-- none of the functions so far has the name
abbrev pub invariant-loop-function : goal.invariant-loop-function
invariant-loop-function l =
    function_in (map function_tree l.functions) l.name ≡ function_in (map function_tree (drop l.function-index l.functions)) l.name
