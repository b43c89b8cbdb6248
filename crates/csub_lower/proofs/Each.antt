-- Each argument is no larger than all of them, and has what all of them have.
use Rattle.std.proofs.Common.{ℕ, zero, suc, ◌≡◌, ◌<◌, ◌≤◌, List, [], ◌∷◌, length, map, drop, get_or, false, IsTrue, sym, subst, arith}
use Rattle.csub_tree.specs.declared.expression.Expr.{Expr as CodeExpr}
use Rattle.csub_tree.specs.Expressions.{expr_tree, exprs_of}
use Rattle.csub_scopes.specs.Scopes.{Scope}
use Rattle.csub_rules.specs.Sorts.{is_number}
use Rattle.csub_rules.specs.ExprSorts.{sort_of}
use Rattle.csub_rules.specs.Fine.{Fine, FineNumbers}
use Rattle.csub_lower.specs.Calls.{FineEach}
use Rattle.csub_lower.specs.Sizes.{size, all_size}

small_at : (xs : List CodeExpr) (i : ℕ) (d : CodeExpr) → i < length xs → size (expr_tree (get_or xs i d)) ≤ all_size (exprs_of (map expr_tree xs))
small_at [] i d h = absurd (omega arith)
small_at (x ∷ xs) zero d h = omega arith
small_at (x ∷ xs) (suc i) d h = let rest = small_at xs i d (omega arith) in omega arith

fine_at : (scope : Scope) (xs : List CodeExpr) (i : ℕ) (d : CodeExpr) → i < length xs → FineEach scope (exprs_of (map expr_tree (drop i xs))) → Fine scope false (expr_tree (get_or xs i d))
fine_at scope [] i d h fine = absurd (omega arith)
fine_at scope (x ∷ xs) zero d h fine = fine.0
fine_at scope (x ∷ xs) (suc i) d h fine = fine_at scope xs i d (omega arith) fine

number_at : (scope : Scope) (xs : List CodeExpr) (i : ℕ) (d : CodeExpr) → i < length xs → FineNumbers scope (exprs_of (map expr_tree (drop i xs)))
    → Fine scope false (expr_tree (get_or xs i d)) × IsTrue (is_number (sort_of scope (expr_tree (get_or xs i d))))
number_at scope [] i d h fine = absurd (omega arith)
number_at scope (x ∷ xs) zero d h fine = (fine.0, fine.1)
number_at scope (x ∷ xs) (suc i) d h fine = number_at scope xs i d (omega arith) fine

-- the same of the one that was read
module _ (xs : List CodeExpr) (i : ℕ) (e : CodeExpr) (h : i < length xs) (is : e ≡ get_or xs i e) where
  pub small : size (expr_tree e) ≤ all_size (exprs_of (map expr_tree xs))
  small = subst (λ x. size (expr_tree x) ≤ all_size (exprs_of (map expr_tree xs))) (sym is) (small_at xs i e h)

  pub fine : (scope : Scope) → FineEach scope (exprs_of (map expr_tree (drop i xs))) → Fine scope false (expr_tree e)
  fine scope all = subst (λ x. Fine scope false (expr_tree x)) (sym is) (fine_at scope xs i e h all)

  pub number : (scope : Scope) → FineNumbers scope (exprs_of (map expr_tree (drop i xs))) → Fine scope false (expr_tree e) × IsTrue (is_number (sort_of scope (expr_tree e)))
  number scope all = subst (λ x. Fine scope false (expr_tree x) × IsTrue (is_number (sort_of scope (expr_tree x)))) (sym is) (number_at scope xs i e h all)
