-- The arguments of a call, one after the other and as a whole.
use Rattle.std.proofs.Common.{◌≡◌, ◌∙◌, refl, ap, sym, ℕ, ◌+◌, ◌<◌, List, [], ◌∷◌, length, map, drop, get_or}
use Rattle.std.proofs.Common.{Bool, true, false, ◌&&◌, ◌||◌, Option}
use Rattle.std.proofs.lemmas.List.{drop_more}
use Rattle.csub_tree.specs.declared.expression.Expr.{Expr as CodeExpr}
use Rattle.csub_tree.specs.Expressions.{Expr, Exprs, MoreExprs, expr_tree, exprs_of}
use Rattle.csub_scopes.specs.Scopes.{Scope}
use Rattle.csub_rules.specs.declared.fault.Fault.{Fault}
use Rattle.csub_rules.specs.Faults.{◌or_earlier◌}
use Rattle.csub_rules.specs.Sorts.{Sort}
use Rattle.csub_rules.specs.ExprFaults.{Standing, fault, number_fault}
use Rattle.csub_rules.specs.ExprSorts.{sort_of, sorts_of}
use Rattle.csub_check.specs.Arguments.{Wanted, for_types, a_format, numbers, after, next_suits, next_misfits, next_fault}
use Rattle.csub_check.specs.Arguments.{all_suit, any_misfit, all_fault}
use Rattle.csub_rules.proofs.LawsEarlier.{earlier_assoc}

and_assoc : (a b c : Bool) → ((a && b) && c) ≡ (a && (b && c))
and_assoc true b c = refl
and_assoc false b c = refl

or_assoc : (a b c : Bool) → ((a || b) || c) ≡ (a || (b || c))
or_assoc true b c = refl
or_assoc false b c = refl

suit_step : (w : Wanted) (s : Sort) (ss : List Sort) → (next_suits w s && all_suit (after w) ss) ≡ all_suit w (s ∷ ss)
suit_step (for_types []) s ss = refl
suit_step (for_types (p ∷ ps)) s ss = refl
suit_step a_format s ss = refl
suit_step numbers s ss = refl

misfit_step : (w : Wanted) (s : Sort) (ss : List Sort) → (next_misfits w s || any_misfit (after w) ss) ≡ any_misfit w (s ∷ ss)
misfit_step (for_types []) s ss = refl
misfit_step (for_types (p ∷ ps)) s ss = refl
misfit_step a_format s ss = refl
misfit_step numbers s ss = refl

fault_step : (scope : Scope) (h : Standing) (w : Wanted) (e : Expr) (es : Exprs)
    → (next_fault w e (fault scope h e) (number_fault scope e) or_earlier all_fault scope h (after w) es) ≡ all_fault scope h w (MoreExprs e es)
fault_step scope h (for_types []) e es = refl
fault_step scope h (for_types (p ∷ ps)) e es = refl
fault_step scope h a_format e es = refl
fault_step scope h numbers e es = refl

-- one argument more
dropped : (args : List CodeExpr) (i : ℕ) (arg : CodeExpr) → i < length args → arg ≡ get_or args i arg → arg ∷ drop (i + 1) args ≡ drop i args
dropped args i arg h e = sym (drop_more args i arg h ∙ ap (λ x. x ∷ drop (i + 1) args) (sym e))

abbrev trees : List CodeExpr → Exprs
trees args = exprs_of (map expr_tree args)

pub suits_more : (scope : Scope) (args : List CodeExpr) (i : ℕ) (arg : CodeExpr) (w v : Wanted) (b r : Bool) (s : Sort)
    → i < length args → arg ≡ get_or args i arg → s ≡ sort_of scope (expr_tree arg) → r ≡ next_suits w s → v ≡ after w
    → ((b && r) && all_suit v (sorts_of scope (trees (drop (i + 1) args)))) ≡ (b && all_suit w (sorts_of scope (trees (drop i args))))
suits_more scope args i arg w v b r s h e is step next =
    let ss : List Sort = sorts_of scope (trees (drop (i + 1) args)) in
    ap (λ x. (b && x) && all_suit v ss) step ∙ ap (λ x. (b && next_suits w s) && all_suit x ss) next
    ∙ and_assoc b (next_suits w s) (all_suit (after w) ss) ∙ ap (λ x. b && x) (suit_step w s ss)
    ∙ ap (λ x. b && all_suit w (x ∷ ss)) is ∙ ap (λ es. b && all_suit w (sorts_of scope (trees es))) (dropped args i arg h e)

pub misfits_more : (scope : Scope) (args : List CodeExpr) (i : ℕ) (arg : CodeExpr) (w v : Wanted) (b r : Bool) (s : Sort)
    → i < length args → arg ≡ get_or args i arg → s ≡ sort_of scope (expr_tree arg) → r ≡ next_misfits w s → v ≡ after w
    → ((b || r) || any_misfit v (sorts_of scope (trees (drop (i + 1) args)))) ≡ (b || any_misfit w (sorts_of scope (trees (drop i args))))
misfits_more scope args i arg w v b r s h e is step next =
    let ss : List Sort = sorts_of scope (trees (drop (i + 1) args)) in
    ap (λ x. (b || x) || any_misfit v ss) step ∙ ap (λ x. (b || next_misfits w s) || any_misfit x ss) next
    ∙ or_assoc b (next_misfits w s) (any_misfit (after w) ss) ∙ ap (λ x. b || x) (misfit_step w s ss)
    ∙ ap (λ x. b || any_misfit w (x ∷ ss)) is ∙ ap (λ es. b || any_misfit w (sorts_of scope (trees es))) (dropped args i arg h e)

pub fault_more : (scope : Scope) (stands : Standing) (args : List CodeExpr) (i : ℕ) (arg : CodeExpr) (w v : Wanted) (f g r own number : Option Fault)
    → i < length args → arg ≡ get_or args i arg → own ≡ fault scope stands (expr_tree arg) → number ≡ number_fault scope (expr_tree arg)
    → r ≡ next_fault w (expr_tree arg) own number → g ≡ (f or_earlier r) → v ≡ after w
    → (g or_earlier all_fault scope stands v (trees (drop (i + 1) args))) ≡ (f or_earlier all_fault scope stands w (trees (drop i args)))
fault_more scope stands args i arg w v f g r own number h e owns numbers_is step joined next =
    let tree : Expr = expr_tree arg in
    let rest : Exprs = trees (drop (i + 1) args) in
    let this : Option Fault = next_fault w tree (fault scope stands tree) (number_fault scope tree) in
    let one : r ≡ this = step ∙ ap (λ x. next_fault w tree x number) owns ∙ ap (λ x. next_fault w tree (fault scope stands tree) x) numbers_is in
    ap (λ x. x or_earlier all_fault scope stands v rest) (joined ∙ ap (λ x. f or_earlier x) one)
    ∙ ap (λ x. (f or_earlier this) or_earlier all_fault scope stands x rest) next
    ∙ earlier_assoc f this (all_fault scope stands (after w) rest) ∙ ap (λ x. f or_earlier x) (fault_step scope stands w tree rest)
    ∙ ap (λ es. f or_earlier all_fault scope stands w (trees es)) (dropped args i arg h e)
