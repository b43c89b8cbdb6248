use Rattle.std.proofs.Common.{◌≡◌, map, drop}
use Rattle.csub_tree.specs.Expressions.{expr_tree, exprs_of}
use Rattle.csub_validity.specs.Valid.{most_values}
use Rattle.csub_limits.specs.Limits.{first_above}
use Rattle.csub_limits.specs.Prints.{prints_all}
use Rattle.csub_limits.proofs.prints.+expression.Given as goal

-- none of the expressions so far has such a call
abbrev pub invariant-wide_in_exprs-loop-e : goal.invariant-wide_in_exprs-loop-e
invariant-wide_in_exprs-loop-e l =
    first_above most_values (prints_all (exprs_of (map expr_tree l.exprs))) ≡ first_above most_values (prints_all (exprs_of (map expr_tree (drop l.e-index l.exprs))))
