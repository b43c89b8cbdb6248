-- What stands in the parts of a node, by the nodes of the code.
use Rattle.std.proofs.Common.{◌≡◌, ◌∙◌, ◌++◌, ◌⊎◌, inl, inr, ap, map, sym, rules, append_assoc, Option, Some, None, option_map}
use Rattle.std.specs.declared.boxed.Box.{Box}
use Rattle.std.specs.declared.vec.Vec.{Vec}
use Rattle.std.specs.declared.alloc.Global.{Global}
use Rattle.csub_text.specs.declared.operator.BinOp.{BinOp}
use Rattle.csub_tree.specs.declared.expression.Expr.{Expr as CodeExpr}
use Rattle.csub_tree.specs.declared.expression.ExprKind.{ExprKind as CodeKind, the_lemmas as expr_lemmas}
use Rattle.csub_tree.specs.declared.expression.ExprKind as code
use Rattle.csub_tree.specs.declared.statement.Stmt.{Stmt as CodeStmt}
use Rattle.csub_tree.specs.declared.statement.StmtKind as line
use Rattle.csub_tree.specs.declared.statement.StmtKind.{the_lemmas as line_lemmas}
use Rattle.csub_tree.specs.Expressions.{Binary, And, Or, Choose, Assign, Index, expr_tree, kind_tree}
use Rattle.csub_tree.specs.Statements.{If, While, Do, For, Switch, NoStmt, OneStmt, line_tree, perhaps_of, stmt_tree, stmts_of}
use Rattle.csub_limits.specs.Prints.{prints, prints_in, prints_perhaps, stmt_prints, line_prints, lines_prints, perhaps_prints}

pub choose_parts : (e a b : Box CodeExpr Global) → prints_in (kind_tree (code.Choose e a b)) ≡ prints (expr_tree e.value) ++ (prints (expr_tree a.value) ++ prints (expr_tree b.value))
choose_parts e a b =
    let tree : kind_tree (code.Choose e a b) ≡ Choose (expr_tree e.value) (expr_tree a.value) (expr_tree b.value) = search (rules, expr_lemmas) in
    ap prints_in tree

-- what has two parts, of which the first comes first
pub two_parts : (k : CodeKind) (a b : Box CodeExpr Global)
    → ((x : BinOp) × (k ≡ code.Binary x a b)) ⊎ ((k ≡ code.And a b) ⊎ ((k ≡ code.Or a b) ⊎ (((x : Option BinOp) × (k ≡ code.Assign x a b)) ⊎ (k ≡ code.Index a b))))
    → prints_in (kind_tree k) ≡ prints (expr_tree a.value) ++ prints (expr_tree b.value)
two_parts k a b (inl (x, e)) =
    let tree : kind_tree (code.Binary x a b) ≡ Binary x (expr_tree a.value) (expr_tree b.value) = search (rules, expr_lemmas) in
    ap (λ k. prints_in (kind_tree k)) e ∙ ap prints_in tree
two_parts k a b (inr (inl e)) =
    let tree : kind_tree (code.And a b) ≡ And (expr_tree a.value) (expr_tree b.value) = search (rules, expr_lemmas) in
    ap (λ k. prints_in (kind_tree k)) e ∙ ap prints_in tree
two_parts k a b (inr (inr (inl e))) =
    let tree : kind_tree (code.Or a b) ≡ Or (expr_tree a.value) (expr_tree b.value) = search (rules, expr_lemmas) in
    ap (λ k. prints_in (kind_tree k)) e ∙ ap prints_in tree
two_parts k a b (inr (inr (inr (inl (x, e))))) =
    let tree : kind_tree (code.Assign x a b) ≡ Assign x (expr_tree a.value) (expr_tree b.value) = search (rules, expr_lemmas) in
    ap (λ k. prints_in (kind_tree k)) e ∙ ap prints_in tree
two_parts k a b (inr (inr (inr (inr e)))) =
    let tree : kind_tree (code.Index a b) ≡ Index (expr_tree a.value) (expr_tree b.value) = search (rules, expr_lemmas) in
    ap (λ k. prints_in (kind_tree k)) e ∙ ap prints_in tree

pub switch_parts : (e : CodeExpr) (ss : Vec CodeStmt Global) → line_prints (line_tree (line.Switch e ss)) ≡ prints (expr_tree e) ++ lines_prints (stmts_of (map stmt_tree ss.items))
switch_parts e ss =
    let tree : line_tree (line.Switch e ss) ≡ Switch (expr_tree e) (stmts_of (map stmt_tree ss.items)) = search (rules, line_lemmas) in
    ap line_prints tree

pub if_parts : (e : CodeExpr) (a : Box CodeStmt Global) (o : Option (Box CodeStmt Global))
    → line_prints (line_tree (line.If e a o)) ≡ prints (expr_tree e) ++ (stmt_prints (stmt_tree a.value) ++ perhaps_prints (perhaps_of (option_map (λ s. stmt_tree s.value) o)))
if_parts e a None =
    let tree : line_tree (line.If e a None) ≡ If (expr_tree e) (stmt_tree a.value) NoStmt = search (rules, line_lemmas) in
    ap line_prints tree
if_parts e a (Some b) =
    let tree : line_tree (line.If e a (Some b)) ≡ If (expr_tree e) (stmt_tree a.value) (OneStmt (stmt_tree b.value)) = search (rules, line_lemmas) in
    ap line_prints tree

pub while_parts : (e : CodeExpr) (a : Box CodeStmt Global) → line_prints (line_tree (line.While e a)) ≡ prints (expr_tree e) ++ stmt_prints (stmt_tree a.value)
while_parts e a =
    let tree : line_tree (line.While e a) ≡ While (expr_tree e) (stmt_tree a.value) = search (rules, line_lemmas) in
    ap line_prints tree

pub do_parts : (a : Box CodeStmt Global) (e : CodeExpr) → line_prints (line_tree (line.Do a e)) ≡ stmt_prints (stmt_tree a.value) ++ prints (expr_tree e)
do_parts a e =
    let tree : line_tree (line.Do a e) ≡ Do (stmt_tree a.value) (expr_tree e) = search (rules, line_lemmas) in
    ap line_prints tree

-- the condition and the third part together
pub for_parts : (o : Option (Box CodeStmt Global)) (e f : Option CodeExpr) (a : Box CodeStmt Global)
    → line_prints (line_tree (line.For o e f a)) ≡ perhaps_prints (perhaps_of (option_map (λ s. stmt_tree s.value) o)) ++ ((prints_perhaps (option_map expr_tree e) ++ prints_perhaps (option_map expr_tree f)) ++ stmt_prints (stmt_tree a.value))
for_parts None e f a =
    let tree : line_tree (line.For None e f a) ≡ For NoStmt (option_map expr_tree e) (option_map expr_tree f) (stmt_tree a.value) = search (rules, line_lemmas) in
    ap line_prints tree ∙ sym (append_assoc (prints_perhaps (option_map expr_tree e)) (prints_perhaps (option_map expr_tree f)) (stmt_prints (stmt_tree a.value)))
for_parts (Some b) e f a =
    let tree : line_tree (line.For (Some b) e f a) ≡ For (OneStmt (stmt_tree b.value)) (option_map expr_tree e) (option_map expr_tree f) (stmt_tree a.value) = search (rules, line_lemmas) in
    let together = append_assoc (prints_perhaps (option_map expr_tree e)) (prints_perhaps (option_map expr_tree f)) (stmt_prints (stmt_tree a.value)) in
    ap line_prints tree ∙ ap (λ ns. stmt_prints (stmt_tree b.value) ++ ns) (sym together)
