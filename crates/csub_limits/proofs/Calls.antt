-- What a call of `printf` counts, by how many arguments it has.
use Rattle.std.proofs.Common.{◌≡◌, ℕ, suc, ◌+◌, ◌-◌, ◌<◌, ◌≤◌, List, [], ◌∷◌, length, map, Some, None, Bool, true, false, cond, refl, arith}
use Rattle.std.specs.Prelude.{nat_lt, bytes_eq, codes}
use Rattle.std.proofs.lemmas.Bool.{lt-ltb, le-ltb}
use Rattle.csub_tree.specs.declared.expression.Expr.{Expr as CodeExpr}
use Rattle.csub_tree.specs.Expressions.{expr_tree, exprs_of}
use Rattle.csub_limits.specs.Limits.{first_above}
use Rattle.csub_limits.specs.Prints.{expr_count, printed}

count_is : (es : List CodeExpr) → expr_count (exprs_of (map expr_tree es)) ≡ length es
count_is [] = refl
count_is (e ∷ es) = let rest = count_is es in omega (arith, rest)

pub wide_printf : (m : ℕ) (f : List ℕ) (es : List CodeExpr) → bytes_eq f (codes "printf") ≡ true → m + 1 < length es → Some (length es - 1) ≡ first_above m (printed f (exprs_of (map expr_tree es)))
wide_printf m f [] is wide = absurd (omega arith)
wide_printf m f (e ∷ es) is wide =
    let above : nat_lt m (length es) ≡ true = lt-ltb m (length es) (omega arith) in
    let values : suc (length es) - 1 ≡ length es = omega arith in
    rw (is, count_is es, above, values) refl

few_listed : (m n : ℕ) (b : Bool) → n ≤ m → None ≡ first_above m (cond b (n ∷ []) [])
few_listed m n false few = refl
few_listed m n true few = let above : nat_lt m n ≡ false = le-ltb m n few in rw above refl

none_listed : (m : ℕ) (b : Bool) → None ≡ first_above m (cond b [] [])
none_listed m false = refl
none_listed m true = refl

pub narrow_printf : (m : ℕ) (f : List ℕ) (es : List CodeExpr) → length es ≤ m + 1 → None ≡ first_above m (printed f (exprs_of (map expr_tree es)))
narrow_printf m f [] few = none_listed m (bytes_eq f (codes "printf"))
narrow_printf m f (e ∷ es) few = rw (count_is es) (few_listed m (length es) (bytes_eq f (codes "printf")) (omega arith))

pub no_printf : (m : ℕ) (f : List ℕ) (es : List CodeExpr) → bytes_eq f (codes "printf") ≡ false → None ≡ first_above m (printed f (exprs_of (map expr_tree es)))
no_printf m f es not = rw not refl
