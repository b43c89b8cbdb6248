use Rattle.std.proofs.Common.{◌≡◌, map, take}
use Rattle.csub_tree.specs.Statements.{stmt_tree}
use Rattle.tree_shape.specs.Shape.{stmt_shape}
use Rattle.tree_shape.proofs.shape.+same_stmt.Given as goal

abbrev pub invariant-same_stmts-loop-i : goal.invariant-same_stmts-loop-i
invariant-same_stmts-loop-i l = map stmt_shape (map stmt_tree (take l.i l.a)) ≡ map stmt_shape (map stmt_tree (take l.i l.b))
