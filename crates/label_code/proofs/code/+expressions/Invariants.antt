use Rattle.std.proofs.Common.{◌≡◌, ◌++◌, drop, map}
use Rattle.csub_semantics.specs.Trees.{expr_tree, exprs_of}
use Rattle.label_code.specs.Bare.{bare_exprs}
use Rattle.label_code.specs.Codes.{exprs_code}
use Rattle.label_code.proofs.code.+expressions.Given as goal

-- what is written and the codes of what is left are the code
abbrev pub invariant-push_exprs-loop-expr : goal.invariant-push_exprs-loop-expr
invariant-push_exprs-loop-expr l =
    l.out.items ++ exprs_code (bare_exprs (exprs_of (map expr_tree (drop l.expr-index l.exprs)))) ≡ l.fn.out.items ++ exprs_code (bare_exprs (exprs_of (map expr_tree l.exprs)))
