-- Rows of expressions, read as lists.
use Rattle.std.proofs.Common.{◌≡◌, ◌<◌, ℕ, zero, suc, List, [], ◌∷◌, map, length, get_or, All, refl, ap, sym, subst, arith, rules}
use Rattle.std.proofs.lemmas.List.Elements.{All-nil, All-cons, All-head, All-tail}
use Rattle.std.specs.declared.vec.Vec.{Vec}
use Rattle.std.specs.declared.alloc.Global.{Global}
use Rattle.csub_semantics.specs.declared.expression.Piece.{Piece}
use Rattle.csub_semantics.specs.Trees.{NamedExpr, formatted, more_exprs, exprs_of}
use Rattle.csub_semantics.specs.Syntax.{LocalTree, FunctionTree}
use Rattle.csub_flat.specs.declared.flat.FlatExpr.{FlatExpr, Printf, Row_of-FlatExpr, end_of-FlatExpr, more_of-FlatExpr, items-the_row-FlatExpr, the_lemmas}
use Rattle.csub_flat.proofs.flat.FlatExpr.TheLaws.{the_size}
use Rattle.csub_flat.specs.Flatten.{flattened, flattened_row}
use Rattle.csub_flat.specs.Fits.{FitsExpr, FitExprs}
use Rattle.csub_flat.specs.Seen.{expr_seen, row_seen}

-- how large an expression is: what a recursion over expressions goes down by
abbrev pub flat_size : FlatExpr → ℕ
flat_size e = the_size e

row_seen-list : {m : _} (row : Row_of-FlatExpr m) → row_seen row ≡ exprs_of (map expr_seen (items-the_row-FlatExpr m row))
row_seen-list end_of-FlatExpr = refl
row_seen-list (more_of-FlatExpr e rest) = ap (λ t. more_exprs (expr_seen e) t) (row_seen-list rest)

-- what a `printf` of these values stands for
pub expr_seen-Printf : (pieces : Vec Piece Global) (values : Vec FlatExpr Global) → expr_seen (Printf pieces values) ≡ formatted pieces.items (exprs_of (map expr_seen values.items))
expr_seen-Printf pieces values = search (rules, row_seen-list, the_lemmas)

module _ (gs : List LocalTree) (f : FunctionTree) where
  -- each expression of a row has its flat copy
  pub flattened_list : (es : List NamedExpr) → flattened_row gs f (exprs_of es) ≡ exprs_of (map (flattened gs f) es)
  flattened_list [] = refl
  flattened_list (e ∷ rest) = ap (λ t. more_exprs (flattened gs f e) t) (flattened_list rest)

  -- and fits
  pub each_fits : (es : List NamedExpr) → FitExprs gs f (exprs_of es) → All (FitsExpr gs f) es
  each_fits [] h = All-nil (FitsExpr gs f)
  each_fits (e ∷ rest) h = All-cons (FitsExpr gs f) e rest h.0 (each_fits rest h.1)

-- what holds of all that stand for a list holds of what each stands for
pub mapped_has : {X Y : Type 0} (Q : Y → Type 0) (h : X → Y) (xs : List X) (i : ℕ) (x : X) → All Q (map h xs) → i < length xs → x ≡ get_or xs i x → Q (h x)
mapped_has Q h [] i x all inside is = absurd (omega arith)
mapped_has Q h (y ∷ ys) zero x all inside is = subst (λ z. Q (h z)) (sym is) (All-head Q (h y) (map h ys) all)
mapped_has Q h (y ∷ ys) (suc i) x all inside is = mapped_has Q h ys i x (All-tail Q (h y) (map h ys) all) (omega arith) is
