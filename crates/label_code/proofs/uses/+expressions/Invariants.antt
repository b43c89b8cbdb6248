use Rattle.std.proofs.Common.{◌≡◌, ◌++◌, drop, map}
use Rattle.csub_semantics.specs.Trees.{expr_tree, exprs_of}
use Rattle.label_code.specs.Uses.{exprs_uses, use_tree}
use Rattle.label_code.proofs.uses.+expressions.Given as goal

-- what is listed and the names of what is left are the names
abbrev pub invariant-add_exprs-loop-expr : goal.invariant-add_exprs-loop-expr
invariant-add_exprs-loop-expr l =
    map use_tree l.uses.items ++ exprs_uses (exprs_of (map expr_tree (drop l.expr-index l.exprs)))
    ≡ map use_tree l.fn.uses.items ++ exprs_uses (exprs_of (map expr_tree l.exprs))
