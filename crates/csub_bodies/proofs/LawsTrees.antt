-- What the statements of the code are as trees. Crates above cite these lemmas.
use Rattle.std.proofs.Common.{◌≡◌, option_map, Option, Some, None, rules}
use Rattle.std.specs.Global.{Box}
use Rattle.csub_tree.specs.declared.expression.Expr.{Expr as CodeExpr}
use Rattle.csub_tree.specs.declared.statement.Stmt.{Stmt as CodeStmt, the_lemmas as stmt_lemmas}
use Rattle.csub_tree.specs.declared.statement.StmtKind.{For as CodeFor, the_lemmas}
use Rattle.csub_tree.specs.Expressions.{expr_tree}
use Rattle.csub_tree.specs.Statements.{Line, For, line_tree, stmt_tree, perhaps_of}

pub for_tree : (first : Option (Box CodeStmt)) (e f : Option CodeExpr) (body : Box CodeStmt)
    → line_tree (CodeFor first e f body) ≡ For (perhaps_of (option_map (λ s. stmt_tree s.value) first)) (option_map expr_tree e) (option_map expr_tree f) (stmt_tree body.value)
for_tree None e f body = search (rules, the_lemmas)
for_tree (Some s) e f body = search (rules, the_lemmas)

pub line_of : (s : CodeStmt) → stmt_tree s ≡ Line (line_tree s.kind) s.span
line_of s = search (rules, stmt_lemmas)
