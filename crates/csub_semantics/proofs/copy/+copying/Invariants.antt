use Rattle.std.proofs.Common.{◌≡◌, map, take}
use Rattle.csub_semantics.specs.Trees.{expr_tree}
use Rattle.csub_semantics.proofs.copy.+copying.Given as goal

abbrev pub invariant-copy_exprs-loop-expr : goal.invariant-copy_exprs-loop-expr
invariant-copy_exprs-loop-expr l = map expr_tree l.made.items ≡ map expr_tree (take l.expr-index l.exprs)
