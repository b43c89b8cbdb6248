-- Arguments that fit what is called.
use Rattle.std.proofs.Common.{◌≡◌, refl, subst, List, [], ◌∷◌, length, map, false, IsTrue, Option}
use Rattle.csub_types.specs.declared.kind.IntKind.{IntKind}
use Rattle.csub_types.specs.declared.kind.IntKind.TheVariants.{Int}
use Rattle.csub_tree.specs.declared.expression.Expr.{Expr as CodeExpr}
use Rattle.csub_tree.specs.Expressions.{Exprs, NoExprs, MoreExprs, expr_tree, exprs_of}
use Rattle.csub_objects.specs.Types.{TypeTree, number_type}
use Rattle.csub_scopes.specs.Scopes.{Scope}
use Rattle.csub_rules.specs.Sorts.{is_number}
use Rattle.csub_rules.specs.Callees.{Callee, user_function, getchar_function, putchar_function, printf_function, fixed_params, takes, take_all, are_numbers}
use Rattle.csub_rules.specs.ExprSorts.{sort_of, sorts_of}
use Rattle.csub_rules.specs.Fine.{FineCall, FineArgs, FineNumbers, FinePrint}
use Rattle.csub_rules.proofs.LawsServed.{both}
use Rattle.csub_lower.specs.Calls.{FineEach}

abbrev trees : List CodeExpr → Exprs
trees args = exprs_of (map expr_tree args)

-- what is known of the arguments of a call by the function that is called
abbrev pub IsFine : Scope → Callee → Exprs → Type 0
IsFine scope c es = FineCall false c (FineArgs scope (fixed_params c) es) (FinePrint scope es)

pub record Fit (scope : Scope) (ps : List TypeTree) (es : Exprs) : Type 0 where
  pub fine : FineEach scope es
  pub taken : IsTrue (take_all ps (sorts_of scope es))

pub fits : (scope : Scope) (ps : List TypeTree) (es : Exprs) → FineArgs scope ps es → Fit scope ps es
fits scope [] NoExprs h = record { fine = tt; taken = refl }
fits scope [] (MoreExprs e rest) h = absurd h
fits scope (p ∷ ps) NoExprs h = absurd h
fits scope (p ∷ ps) (MoreExprs e rest) h =
    let f = fits scope ps rest h.2 in
    record { fine = (h.0, f.fine); taken = both (takes p (sort_of scope e)) (take_all ps (sorts_of scope rest)) h.1 f.taken }

pub user_fits : (scope : Scope) (c : Callee) (ps : List TypeTree) (r : Option IntKind) (es : Exprs) → c ≡ user_function ps r → IsFine scope c es
    → Fit scope ps es
user_fits scope c ps r es e h = fits scope ps es (subst (λ x. IsFine scope x es) e h)

-- `putchar` has one argument, a number
pub record IsOne (scope : Scope) (args : List CodeExpr) : Type 0 where
  pub numbers : FineNumbers scope (trees args)
  pub one : length args ≡ 1

one : (scope : Scope) (args : List CodeExpr) → FineArgs scope (number_type Int ∷ []) (trees args) → IsOne scope args
one scope [] h = absurd h
one scope (e ∷ []) h = record { numbers = (h.0, h.1, tt); one = refl }
one scope (e ∷ d ∷ es) h = absurd h.2

pub output_fits : (scope : Scope) (c : Callee) (args : List CodeExpr) → c ≡ putchar_function → IsFine scope c (trees args) → IsOne scope args
output_fits scope c args e h = one scope args (subst (λ x. IsFine scope x (trees args)) e h)

pub one_of : (scope : Scope) (c : Callee) (es : Exprs) → c ≡ putchar_function → IsFine scope c es → FineArgs scope (number_type Int ∷ []) es
one_of scope c es e h = subst (λ x. IsFine scope x es) e h

-- `getchar` has none
none : (scope : Scope) (es : Exprs) → FineArgs scope [] es → es ≡ NoExprs
none scope NoExprs h = refl
none scope (MoreExprs e rest) h = absurd h

pub input_fits : (scope : Scope) (c : Callee) (es : Exprs) → c ≡ getchar_function → IsFine scope c es → es ≡ NoExprs
input_fits scope c es e h = none scope es (subst (λ x. IsFine scope x es) e h)

-- `printf` has a format, and numbers behind it
pub print_fits : (scope : Scope) (c : Callee) (es : Exprs) → c ≡ printf_function → IsFine scope c es → FinePrint scope es
print_fits scope c es e h = subst (λ x. IsFine scope x es) e h

pub are_all_numbers : (scope : Scope) (es : Exprs) → FineNumbers scope es → IsTrue (are_numbers (sorts_of scope es))
are_all_numbers scope NoExprs h = refl
are_all_numbers scope (MoreExprs e rest) h =
    both (is_number (sort_of scope e)) (are_numbers (sorts_of scope rest)) h.1 (are_all_numbers scope rest h.2)
