-- Lists whose elements have the same shape.
use Rattle.std.proofs.Common.{◌≡◌, ◌↔◌, ℕ, zero, suc, ◌<◌, List, [], ◌∷◌, length, map, get_or, Bool, IsTrue, arith, refl, sym, ap, ◌∙◌, rules}
use Rattle.std.specs.declared.vec.Vec.{Vec}
use Rattle.std.specs.declared.alloc.Global.{Global}
use Rattle.csub_text.specs.declared.span.Span.{Span}
use Rattle.csub_tree.specs.declared.name.Name.{Name}
use Rattle.csub_tree.specs.declared.expression.Expr.{Expr as CodeExpr}
use Rattle.csub_tree.specs.declared.expression.ExprKind.{Call, the_lemmas as expr_lemmas}
use Rattle.csub_tree.specs.declared.declaration.Init.{Init as CodeInit, List as Listed', the_lemmas as init_lemmas}
use Rattle.csub_tree.specs.declared.declaration.Head.{Head as CodeHead}
use Rattle.csub_tree.specs.declared.unit.Item.TheVariants.{Function}
use Rattle.csub_tree.specs.declared.statement.Stmt.{Stmt as CodeStmt}
use Rattle.csub_tree.specs.declared.statement.StmtKind.{Block, Switch, the_lemmas as stmt_lemmas}
use Rattle.csub_tree.specs.Expressions as expr
use Rattle.csub_tree.specs.Expressions.{Expr, Exprs, expr_tree, kind_tree, exprs_of}
use Rattle.csub_tree.specs.Declarations as init
use Rattle.csub_tree.specs.Declarations.{Init, Inits, init_tree, inits_of, head_tree}
use Rattle.csub_tree.specs.Statements as stmt
use Rattle.csub_tree.specs.Statements.{Stmt, Stmts, stmt_tree, line_tree, stmts_of}
use Rattle.csub_tree.specs.Units.{item_tree}
use Rattle.tree_shape.specs.Shape.{name_shape, expr_shape, kind_shape, exprs_shape, init_shape, inits_shape, head_shape, stmt_shape, line_shape, stmts_shape, item_shape}

-- elements at one place of lists of the same shapes have the same shape
pub shape_at : {X Y : Type 0} (f : Y → Y) (g : X → Y) (xs ys : List X) (i : ℕ) (x y : X) → i < length xs → i < length ys → map f (map g xs) ≡ map f (map g ys) → x ≡ get_or xs i x → y ≡ get_or ys i y → f (g x) ≡ f (g y)
shape_at f g [] ys i x y h k e p q = absurd (omega arith)
shape_at f g (z ∷ xs) [] i x y h k e p q = absurd (omega arith)
shape_at f g (z ∷ xs) (w ∷ ys) zero x y h k e p q = let first : f (g z) ≡ f (g w) = cc in ap (λ v. f (g v)) p ∙ first ∙ ap (λ v. f (g v)) (sym q)
shape_at f g (z ∷ xs) (w ∷ ys) (suc i) x y h k e p q = let rest : map f (map g xs) ≡ map f (map g ys) = cc in shape_at f g xs ys i x y (omega arith) (omega arith) rest p q

exprs_list : (es : List Expr) → exprs_shape (exprs_of es) ≡ exprs_of (map expr_shape es)
exprs_list [] = refl
exprs_list (e ∷ es) = ap (λ t. expr.MoreExprs (expr_shape e) t) (exprs_list es)

exprs_same : (xs ys : List Expr) → exprs_of xs ≡ exprs_of ys → xs ≡ ys
exprs_same [] [] h = refl
exprs_same [] (y ∷ ys) h = cc
exprs_same (x ∷ xs) [] h = cc
exprs_same (x ∷ xs) (y ∷ ys) h = let rest : xs ≡ ys = exprs_same xs ys (cc) in cc

call_tree : (n : Name) (es : Vec CodeExpr Global) → kind_shape (kind_tree (Call n es)) ≡ expr.Call (name_shape n) (exprs_of (map expr_shape (map expr_tree es.items)))
call_tree n es =
    let tree : kind_tree (Call n es) ≡ expr.Call n (exprs_of (map expr_tree es.items)) = search (rules, expr_lemmas) in
    ap kind_shape tree ∙ ap (λ t. expr.Call (name_shape n) t) (exprs_list (map expr_tree es.items))

pub call_same : (r : Bool) (n m : Name) (es fs : Vec CodeExpr Global) → name_shape n ≡ name_shape m → (IsTrue r ↔ (map expr_shape (map expr_tree es.items) ≡ map expr_shape (map expr_tree fs.items)))
    → IsTrue r ↔ (kind_shape (kind_tree (Call n es)) ≡ kind_shape (kind_tree (Call m fs)))
call_same r n m es fs e h = rw (call_tree n es, call_tree m fs) (λ t. let k = h.0 t in cc, λ t. h.1 (exprs_same _ _ (cc)))

inits_list : (is : List Init) → inits_shape (inits_of is) ≡ inits_of (map init_shape is)
inits_list [] = refl
inits_list (i ∷ is) = ap (λ t. init.MoreInits (init_shape i) t) (inits_list is)

inits_same : (xs ys : List Init) → inits_of xs ≡ inits_of ys → xs ≡ ys
inits_same [] [] h = refl
inits_same [] (y ∷ ys) h = cc
inits_same (x ∷ xs) [] h = cc
inits_same (x ∷ xs) (y ∷ ys) h = let rest : xs ≡ ys = inits_same xs ys (cc) in cc

listed_tree : (is : Vec CodeInit Global) (s : Span) → init_shape (init_tree (Listed' is s)) ≡ init_shape (init.Listed (inits_of (map init_tree is.items)) s)
listed_tree is s =
    let tree : init_tree (Listed' is s) ≡ init.Listed (inits_of (map init_tree is.items)) s = search (rules, init_lemmas) in
    ap init_shape tree

pub listed_same : (r : Bool) (is js : Vec CodeInit Global) (s t : Span) → (IsTrue r ↔ (map init_shape (map init_tree is.items) ≡ map init_shape (map init_tree js.items)))
    → IsTrue r ↔ (init_shape (init_tree (Listed' is s)) ≡ init_shape (init_tree (Listed' js t)))
listed_same r is js s t h = rw (listed_tree is s, listed_tree js t, inits_list (map init_tree is.items), inits_list (map init_tree js.items)) (λ p. let k = h.0 p in cc, λ p. h.1 (inits_same _ _ (cc)))

stmts_list : (ss : List Stmt) → stmts_shape (stmts_of ss) ≡ stmts_of (map stmt_shape ss)
stmts_list [] = refl
stmts_list (s ∷ ss) = ap (λ t. stmt.MoreStmts (stmt_shape s) t) (stmts_list ss)

stmts_same : (xs ys : List Stmt) → stmts_of xs ≡ stmts_of ys → xs ≡ ys
stmts_same [] [] h = refl
stmts_same [] (y ∷ ys) h = cc
stmts_same (x ∷ xs) [] h = cc
stmts_same (x ∷ xs) (y ∷ ys) h = let rest : xs ≡ ys = stmts_same xs ys (cc) in cc

block_tree : (ss : Vec CodeStmt Global) → line_shape (line_tree (Block ss)) ≡ stmt.Block (stmts_of (map stmt_shape (map stmt_tree ss.items)))
block_tree ss =
    let tree : line_tree (Block ss) ≡ stmt.Block (stmts_of (map stmt_tree ss.items)) = search (rules, stmt_lemmas) in
    ap line_shape tree ∙ ap (λ t. stmt.Block t) (stmts_list (map stmt_tree ss.items))

pub block_same : (r : Bool) (ss us : Vec CodeStmt Global) → (IsTrue r ↔ (map stmt_shape (map stmt_tree ss.items) ≡ map stmt_shape (map stmt_tree us.items)))
    → IsTrue r ↔ (line_shape (line_tree (Block ss)) ≡ line_shape (line_tree (Block us)))
block_same r ss us h = rw (block_tree ss, block_tree us) (λ p. let k = h.0 p in cc, λ p. h.1 (stmts_same _ _ (cc)))

switch_tree : (e : CodeExpr) (ss : Vec CodeStmt Global) → line_shape (line_tree (Switch e ss)) ≡ stmt.Switch (expr_shape (expr_tree e)) (stmts_of (map stmt_shape (map stmt_tree ss.items)))
switch_tree e ss =
    let tree : line_tree (Switch e ss) ≡ stmt.Switch (expr_tree e) (stmts_of (map stmt_tree ss.items)) = search (rules, stmt_lemmas) in
    ap line_shape tree ∙ ap (λ t. stmt.Switch (expr_shape (expr_tree e)) t) (stmts_list (map stmt_tree ss.items))

pub switch_same : (r : Bool) (e f : CodeExpr) (ss us : Vec CodeStmt Global) → expr_shape (expr_tree e) ≡ expr_shape (expr_tree f) → (IsTrue r ↔ (map stmt_shape (map stmt_tree ss.items) ≡ map stmt_shape (map stmt_tree us.items)))
    → IsTrue r ↔ (line_shape (line_tree (Switch e ss)) ≡ line_shape (line_tree (Switch f us)))
switch_same r e f ss us same h = rw (switch_tree e ss, switch_tree f us) (λ p. let k = h.0 p in cc, λ p. h.1 (stmts_same _ _ (cc)))

pub function_same : (r : Bool) (a b : CodeHead) (ss us : Vec CodeStmt Global) (s t : Span) → head_shape (head_tree a) ≡ head_shape (head_tree b) → (IsTrue r ↔ (map stmt_shape (map stmt_tree ss.items) ≡ map stmt_shape (map stmt_tree us.items)))
    → IsTrue r ↔ (item_shape (item_tree (Function a ss s)) ≡ item_shape (item_tree (Function b us t)))
function_same r a b ss us s t same h = rw (stmts_list (map stmt_tree ss.items), stmts_list (map stmt_tree us.items)) (λ p. let k = h.0 p in cc, λ p. h.1 (stmts_same _ _ (cc)))
