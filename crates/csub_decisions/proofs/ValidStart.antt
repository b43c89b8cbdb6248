-- The first function of a program, `#start`, by the parts of its definition.
use Rattle.std.proofs.Common.{◌≡◌, List, [], ◌∷◌, map, length, refl}
use Rattle.csub_semantics.specs.declared.function.RStmt.{RStmt}
use Rattle.csub_semantics.specs.Syntax.{StmtTree, StmtTrees, parts, more_stmts, stmt_tree, stmts_of}
use Rattle.csub_validity.specs.Valid.{IsStartBody}

two_lines : (s t : StmtTree) (rest : StmtTrees) → IsStartBody (more_stmts s (more_stmts t rest)) → ⊥
two_lines (parts ps) t rest h = h
two_lines _ t rest h = h

-- the body of `#start` is one line
pub start_body_is_one : (ss : List RStmt) → IsStartBody (stmts_of (map stmt_tree ss)) → length ss ≡ 1
start_body_is_one [] h = absurd h
start_body_is_one (s ∷ []) h = refl
start_body_is_one (s ∷ t ∷ ss) h = absurd (two_lines (stmt_tree s) (stmt_tree t) (stmts_of (map stmt_tree ss)) h)
