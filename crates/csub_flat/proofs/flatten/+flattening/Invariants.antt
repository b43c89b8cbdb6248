use Rattle.std.proofs.Common.{◌≡◌, map, take}
use Rattle.csub_semantics.specs.Trees.{expr_tree}
use Rattle.csub_flat.specs.Flatten.{flattened}
use Rattle.csub_flat.specs.Scopes.{globals_at, function_at}
use Rattle.csub_flat.specs.Seen.{expr_seen}
use Rattle.csub_flat.proofs.flatten.+flattening.Given as goal

abbrev pub invariant-flatten_exprs-loop-expr : goal.invariant-flatten_exprs-loop-expr
invariant-flatten_exprs-loop-expr l =
    map expr_seen l.made.items ≡ map (flattened (globals_at l.scope) (function_at l.scope)) (map expr_tree (take l.expr-index l.exprs))
