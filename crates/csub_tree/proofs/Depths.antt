-- The most of some depths, element by element.
use Rattle.std.proofs.Common.{◌≡◌, ℕ, zero, suc, ◌+◌, ◌≤◌, ◌<◌, max, List, [], ◌∷◌, length, map, take, get_or, refl, ap, ◌∙◌, arith, rules}
use Rattle.std.proofs.lemmas.List.{get_or-map, length-map}
use Rattle.std.specs.declared.vec.Vec.{Vec}
use Rattle.std.specs.declared.alloc.Global.{Global}
use Rattle.csub_tree.specs.declared.name.Name.{Name}
use Rattle.csub_tree.specs.declared.expression.Expr.{Expr as CodeExpr}
use Rattle.csub_tree.specs.declared.expression.ExprKind.{Call, the_lemmas as expr_lemmas}
use Rattle.csub_tree.specs.declared.declaration.Init.{Init as CodeInit}
use Rattle.csub_tree.specs.declared.statement.Stmt.{Stmt as CodeStmt}
use Rattle.csub_tree.specs.Expressions as expr
use Rattle.csub_tree.specs.Expressions.{expr_tree, kind_tree, exprs_of}
use Rattle.csub_tree.specs.Declarations.{init_tree, inits_of}
use Rattle.csub_tree.specs.Statements.{stmt_tree, stmts_of}
use Rattle.csub_tree.specs.Depth.{most, expr_depth, kind_depth, exprs_depth, init_depth, inits_depth, stmt_depth, stmts_depth}

most_get : (ns : List ℕ) (i d : ℕ) → i < length ns → get_or ns i d ≤ most ns
most_get [] i d h = absurd (omega arith)
most_get (n ∷ ns) zero d h = omega arith
most_get (n ∷ ns) (suc i) d h = omega (arith, most_get ns i d (omega arith))

map_map : {X Y Z : Type 0} (f : Y → Z) (g : X → Y) (xs : List X) → map f (map g xs) ≡ map (λ x. f (g x)) xs
map_map f g [] = refl
map_map f g (x ∷ xs) = ap (λ ys. f (g x) ∷ ys) (map_map f g xs)

-- no element is deeper than the list
pub most_at : {X Y : Type 0} (f : Y → ℕ) (g : X → Y) (xs : List X) (i : ℕ) (x : X) → i < length xs → x ≡ get_or xs i x → f (g x) ≤ most (map f (map g xs))
most_at f g xs i x h e =
    let size : length (map (λ x. f (g x)) xs) ≡ length xs = length-map xs (λ x. f (g x)) in
    let at = get_or-map (λ x. f (g x)) xs i x (f (g x)) h in
    let less = most_get (map (λ x. f (g x)) xs) i (f (g x)) (omega (arith, size)) in
    omega (arith, less, at, ap (λ x. f (g x)) e, ap most (map_map f g xs))

-- one element more
pub most_take : {X Y : Type 0} (f : Y → ℕ) (g : X → Y) (xs : List X) (i : ℕ) (x : X) → i < length xs → x ≡ get_or xs i x → most (map f (map g (take (i + 1) xs))) ≡ max (f (g x)) (most (map f (map g (take i xs))))
most_take f g [] i x h e = absurd (omega arith)
most_take f g (y ∷ xs) zero x h e = rw e refl
most_take f g (y ∷ xs) (suc i) x h e =
    let rest = most_take f g xs i x (omega arith) e in
    let one : suc i + 1 ≡ suc (i + 1) = omega arith in
    rw one (omega (arith, rest))

most_exprs : (es : List CodeExpr) → exprs_depth (exprs_of (map expr_tree es)) ≡ most (map expr_depth (map expr_tree es))
most_exprs [] = refl
most_exprs (e ∷ es) = ap (λ n. max (expr_depth (expr_tree e)) n) (most_exprs es)

pub call_depth : (n : Name) (es : Vec CodeExpr Global) → kind_depth (kind_tree (Call n es)) ≡ most (map expr_depth (map expr_tree es.items))
call_depth n es =
    let tree : kind_tree (Call n es) ≡ expr.Call n (exprs_of (map expr_tree es.items)) = search (rules, expr_lemmas) in
    ap kind_depth tree ∙ most_exprs es.items

pub most_inits : (is : List CodeInit) → inits_depth (inits_of (map init_tree is)) ≡ most (map init_depth (map init_tree is))
most_inits [] = refl
most_inits (i ∷ is) = ap (λ n. max (init_depth (init_tree i)) n) (most_inits is)

pub most_stmts : (ss : List CodeStmt) → stmts_depth (stmts_of (map stmt_tree ss)) ≡ most (map stmt_depth (map stmt_tree ss))
most_stmts [] = refl
most_stmts (s ∷ ss) = ap (λ n. max (stmt_depth (stmt_tree s)) n) (most_stmts ss)
