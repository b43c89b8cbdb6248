-- The kind of a `switch`, and its cases by the lines of its vector.
use Rattle.std.proofs.Common.{◌≡◌, ◌≢◌, ◌↔◌, ◌∙◌, ℕ, ℤ, suc, List, [], ◌∷◌, ◌++◌, map, length, Option, Some, None, Bool, true, false, IsTrue, ◌==◌, All, AllPairs, refl, ap, sym, arith}
use Rattle.std.proofs.lemmas.List.Elements.{All-nil, All-cons, All-head, All-tail}
use Rattle.std.proofs.lemmas.List.Kept.{AllPairs-cons}
use Rattle.std.proofs.lemmas.Bool.Decides.{nat_tests}
use Rattle.csub_text.specs.declared.span.Span.{Span}
use Rattle.csub_semantics.specs.declared.function.RCall.{RCall}
use Rattle.csub_semantics.specs.declared.function.RStmt.{RStmt}
use Rattle.csub_semantics.specs.Labels.{LabelTree}
use Rattle.csub_semantics.specs.Syntax.{call_stage, own_stage, stmt_tree, stmts_of}
use Rattle.csub_semantics.specs.Successors.{case_of, case_list, case_values}
use Rattle.csub_validity.specs.Valid.{switch_kind, IsJump}
use Rattle.csub_decisions.specs.ProgramChecks.{AreOtherCases, own_kind, IsOwnJump}

-- the kind of a `switch` is that of its own point
pub switch_kind-own : (cs : List RCall) (span : Span) (own : Option LabelTree) → switch_kind (map (call_stage span) cs ++ own_stage span own) ≡ own_kind own
switch_kind-own [] span None = refl
switch_kind-own [] span (Some label) = refl
switch_kind-own (c ∷ []) span None = refl
switch_kind-own (c ∷ []) span (Some label) = refl
switch_kind-own (c ∷ d ∷ cs) span own = switch_kind-own (d ∷ cs) span own

both : (b : Bool) → b ≡ false → b ≡ true → ⊥
both true e f = cc
both false e f = cc

some_more : (n : ℕ) → (suc n == 0) ≡ false
some_more n = grind (arith, nat_tests)

-- a `goto` is its own point
pub IsJump-own : (cs : List RCall) (span : Span) (own : Option LabelTree) (none : Bool) → none ≡ (length cs == 0) → IsJump (map (call_stage span) cs ++ own_stage span own) ↔ (IsTrue none × IsOwnJump own)
IsJump-own [] span None none is = (λ h. absurd h, λ h. absurd h.1)
IsJump-own [] span (Some label) none is = (λ h. (is, h), λ h. h.1)
IsJump-own (c ∷ []) span None none is = (λ h. cc, λ h. absurd h.1)
IsJump-own (c ∷ []) span (Some label) none is = (λ h. absurd h, λ h. absurd (both none is h.0))
IsJump-own (c ∷ d ∷ cs) span own none is = (λ h. absurd h, λ h. absurd (both none (is ∙ some_more (length (d ∷ cs))) h.0))

-- two lines are cases of one value nowhere
abbrev pub AreOtherLines : RStmt → RStmt → Type 0
AreOtherLines a b = AreOtherCases (case_of (stmt_tree a)) (case_of (stmt_tree b))

abbrev values_of : List RStmt → List ℤ
values_of ss = case_values (stmts_of (map stmt_tree ss))

-- the values of later lines differ from that of a line
others_of_value : (v : ℤ) (o : Option ℤ) (vs : List ℤ) → (AreOtherCases (Some v) o × All (λ w. v ≢ w) vs) ↔ All (λ w. v ≢ w) (case_list o ++ vs)
others_of_value v None vs = (λ h. h.1, λ h. (λ w e f. cc, h))
others_of_value v (Some u) vs = (
  λ h. All-cons (λ w. v ≢ w) u vs (λ e. h.0 v refl (ap Some (sym e))) h.1,
  λ h. (λ w e f. absurd (All-head (λ w. v ≢ w) u vs h cc), All-tail (λ w. v ≢ w) u vs h),
)

others_of_lines : (v : ℤ) (ss : List RStmt) → All (λ s. AreOtherCases (Some v) (case_of (stmt_tree s))) ss ↔ All (λ w. v ≢ w) (values_of ss)
others_of_lines v [] = (λ h. All-nil (λ w. v ≢ w), λ h. All-nil (λ s. AreOtherCases (Some v) (case_of (stmt_tree s))))
others_of_lines v (s ∷ ss) =
    let one = others_of_value v (case_of (stmt_tree s)) (values_of ss) in
    let rest = others_of_lines v ss in (
      λ h. one.0 (All-head (λ t. AreOtherCases (Some v) (case_of (stmt_tree t))) s ss h, rest.0 (All-tail (λ t. AreOtherCases (Some v) (case_of (stmt_tree t))) s ss h)),
      λ h. let both = one.1 h in All-cons (λ t. AreOtherCases (Some v) (case_of (stmt_tree t))) s ss both.0 (rest.1 both.1),
    )

module _ {X : Type 0} (R : X → X → Type 0) where
  head_of_pairs : (x : X) (xs : List X) → AllPairs R (x ∷ xs) → All (R x) xs
  head_of_pairs x xs h k d below = h 0 (suc k) d (omega arith) (omega (arith, below))

  tail_of_pairs : (x : X) (xs : List X) → AllPairs R (x ∷ xs) → AllPairs R xs
  tail_of_pairs x xs h i j d less below = h (suc i) (suc j) d (omega (arith, less)) (omega (arith, below))

-- a line, whose value is given, before others
pairs_of_line : (o : Option ℤ) (s : RStmt) (ss : List RStmt) → case_of (stmt_tree s) ≡ o → (AllPairs (λ v w. v ≢ w) (values_of ss) ↔ AllPairs AreOtherLines ss) → AllPairs (λ v w. v ≢ w) (case_list o ++ values_of ss) ↔ AllPairs AreOtherLines (s ∷ ss)
pairs_of_line None s ss is rest = (
  λ h. AllPairs-cons AreOtherLines s ss (λ k d below v e f. cc) (rest.0 h),
  λ h. rest.1 (tail_of_pairs AreOtherLines s ss h),
)
pairs_of_line (Some v) s ss is rest =
    let others = others_of_lines v ss in (
      λ h. AllPairs-cons AreOtherLines s ss (rw is (others.1 (head_of_pairs (λ v w. v ≢ w) v (values_of ss) h))) (rest.0 (tail_of_pairs (λ v w. v ≢ w) v (values_of ss) h)),
      λ h. AllPairs-cons (λ v w. v ≢ w) v (values_of ss) (others.0 (rw is at (head_of_pairs AreOtherLines s ss h))) (rest.1 (tail_of_pairs AreOtherLines s ss h)),
    )

-- the values of cases differ where no two lines are cases of one value
pub cases_of_lines : (ss : List RStmt) → AllPairs (λ v w. v ≢ w) (values_of ss) ↔ AllPairs AreOtherLines ss
cases_of_lines [] = (λ h i j d less below. absurd (omega arith), λ h i j d less below. absurd (omega arith))
cases_of_lines (s ∷ ss) = pairs_of_line (case_of (stmt_tree s)) s ss refl (cases_of_lines ss)
