use Rattle.std.proofs.Common.{◌≡◌, map, drop}
use Rattle.csub_tree.specs.Declarations.{declarator_tree}
use Rattle.csub_validity.specs.Valid.{most_values}
use Rattle.csub_limits.specs.Limits.{first_above}
use Rattle.csub_limits.specs.Prints.{vars_prints}
use Rattle.csub_limits.proofs.prints.wide_in_vars.Given as goal

-- none of the names so far has such a call in its initialiser
abbrev pub invariant-loop-var : goal.invariant-loop-var
invariant-loop-var l =
    first_above most_values (vars_prints (map declarator_tree l.vars)) ≡ first_above most_values (vars_prints (map declarator_tree (drop l.var-index l.vars)))
