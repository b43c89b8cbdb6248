-- Formats and the expressions behind them, by the elements of their vectors.
use Rattle.std.proofs.Common.{◌≡◌, ◌↔◌, ℕ, List, [], ◌∷◌, map, length, arith, All, refl, sym, subst}
use Rattle.std.proofs.lemmas.List.Elements.{All-nil, All-cons, All-head, All-tail}
use Rattle.std.specs.declared.vec.Vec.{Vec}
use Rattle.std.specs.declared.alloc.Global.{Global}
use Rattle.csub_semantics.specs.declared.expression.Piece.{Piece}
use Rattle.csub_semantics.specs.declared.expression.RExpr.{RExpr, Printf}
use Rattle.csub_semantics.specs.Trees.{expr_tree, exprs_of, expr_count}
use Rattle.csub_semantics.proofs.LawsRows.{expr_tree-Printf}
use Rattle.csub_validity.specs.Valid.{Scope, IsExpr, AreExprs, IsFormat}

expr_count-list : (es : List RExpr) → expr_count (exprs_of (map expr_tree es)) ≡ length es
expr_count-list [] = refl
expr_count-list (e ∷ es) = omega (arith, expr_count-list es)

module _ (sc : Scope) (n : ℕ) where
  AreExprs-All : (es : List RExpr) → AreExprs sc n (exprs_of (map expr_tree es)) ↔ All (λ e. IsExpr sc n (expr_tree e)) es
  AreExprs-All [] = (λ h. All-nil (λ e. IsExpr sc n (expr_tree e)), λ h. tt)
  AreExprs-All (e ∷ es) =
      let rest = AreExprs-All es in (
        λ h. All-cons (λ x. IsExpr sc n (expr_tree x)) e es h.0 (rest.0 h.1),
        λ h. (All-head (λ x. IsExpr sc n (expr_tree x)) e es h, rest.1 (All-tail (λ x. IsExpr sc n (expr_tree x)) e es h)),
      )

  -- a `printf` is a format with so many values, each an expression
  pub IsExpr-Printf : (pieces : Vec Piece Global) (values : Vec RExpr Global)
      → IsExpr sc n (expr_tree (Printf pieces values)) ↔ (IsFormat pieces.items (length values.items) × All (λ e. IsExpr sc n (expr_tree e)) values.items)
  IsExpr-Printf pieces values =
      let each = AreExprs-All values.items in
      let count = expr_count-list values.items in
      subst (λ t. IsExpr sc n t ↔ (IsFormat pieces.items (length values.items) × All (λ e. IsExpr sc n (expr_tree e)) values.items))
      (sym (expr_tree-Printf pieces values))
      (λ h. (subst (IsFormat pieces.items) count h.0, each.0 h.1), λ h. (subst (IsFormat pieces.items) (sym count) h.0, each.1 h.1))
