-- The stages of a part: its calls, and what stands behind them.
use Rattle.std.proofs.Common.{◌≡◌, ◌↔◌, ℕ, zero, suc, ◌+◌, ◌<◌, List, [], ◌∷◌, ◌++◌, map, length, get_or, Option, Some, None, sym, subst, arith}
use Rattle.csub_semantics.specs.declared.function.RCall.{RCall}
use Rattle.csub_validity.specs.declared.role.Role.{Role}
use Rattle.csub_validity.specs.declared.role.Role.TheVariants.{Whole, Test, Switch, Effect}
use Rattle.csub_text.specs.declared.span.Span.{Span}
use Rattle.csub_semantics.specs.Labels.{LabelTree, call_tree}
use Rattle.csub_semantics.specs.Syntax.{Stage, call_stage, own_stage, FunctionTree, ProgramTree}
use Rattle.csub_validity.specs.Valid.{Scope, IsCall, IsLast, AreStages}
use Rattle.csub_decisions.specs.Checks.{AreCalls}
use Rattle.csub_decisions.specs.ProgramChecks.{IsEnd}

module _ (P : ProgramTree) (f : FunctionTree) (sc : Scope) where
  -- calls that fit their callees, the first of them the k-th
  abbrev pub FitFrom : ℕ → List RCall → Type 0
  FitFrom k [] = Unit {0}
  FitFrom k (c ∷ cs) = IsCall P sc f.temps k (call_tree c.label) × FitFrom (k + 1) cs

  FitFrom-at : (k : ℕ) (cs : List RCall) → FitFrom k cs → (i : ℕ) (d : RCall) → i < length cs → IsCall P sc f.temps (i + k) (call_tree (get_or cs i d).label)
  FitFrom-at k [] h i d below = absurd (omega arith)
  FitFrom-at k (c ∷ cs) h zero d below = let same : k ≡ 0 + k = omega arith in subst (λ n. IsCall P sc f.temps n (call_tree c.label)) same h.0
  FitFrom-at k (c ∷ cs) h (suc i) d below =
      let same : i + (k + 1) ≡ suc i + k = omega arith in
      subst (λ n. IsCall P sc f.temps n (call_tree (get_or cs i d).label)) same (FitFrom-at (k + 1) cs h.1 i d (omega arith))

  FitFrom-all : (k : ℕ) (cs : List RCall) → ((i : ℕ) (d : RCall) → i < length cs → IsCall P sc f.temps (i + k) (call_tree (get_or cs i d).label)) → FitFrom k cs
  FitFrom-all k [] h = tt
  FitFrom-all k (c ∷ cs) h =
      let same : 0 + k ≡ k = omega arith in
      let rest = λ (i : ℕ) (d : RCall) (below : i < length cs). let next : suc i + k ≡ i + (k + 1) = omega arith in subst (λ n. IsCall P sc f.temps n (call_tree (get_or cs i d).label)) next (h (suc i) d (omega arith)) in
      (subst (λ n. IsCall P sc f.temps n (call_tree c.label)) same (h 0 c (omega arith)), FitFrom-all (k + 1) cs rest)

  FitFrom-calls : (cs : List RCall) → FitFrom 1 cs ↔ AreCalls P sc f.temps cs
  FitFrom-calls cs = (FitFrom-at 1 cs, FitFrom-all 1 cs)

  -- a call before the last stage
  AreStages-more : (span : Span) (role : Role) (k : ℕ) (c : RCall) (cs : List RCall) (s : Stage) → AreStages P f sc role k (call_stage span c ∷ (map (call_stage span) cs ++ s ∷ [])) ↔ (IsCall P sc f.temps k (call_tree c.label) × AreStages P f sc role (k + 1) (map (call_stage span) cs ++ s ∷ []))
  AreStages-more span role k c [] s = (λ h. h, λ h. h)
  AreStages-more span role k c (d ∷ cs) s = (λ h. h, λ h. h)

  AreStages-own : (span : Span) (role : Role) (k : ℕ) (cs : List RCall) (s : Stage) → AreStages P f sc role k (map (call_stage span) cs ++ s ∷ []) ↔ (FitFrom k cs × IsLast P f sc role (length cs + k) s.label)
  AreStages-own span role k [] s =
      let same : 0 + k ≡ k = omega arith in
      (λ h. (tt, subst (λ n. IsLast P f sc role n s.label) (sym same) h), λ h. subst (λ n. IsLast P f sc role n s.label) same h.1)
  AreStages-own span role k (c ∷ cs) s =
      let more = AreStages-more span role k c cs s in
      let rest = AreStages-own span role (k + 1) cs s in
      let same : length cs + (k + 1) ≡ suc (length cs) + k = omega arith in (
        λ h. let both = more.0 h in let others = rest.0 both.1 in ((both.0, others.0), subst (λ n. IsLast P f sc role n s.label) same others.1),
        λ h. more.1 (h.0.0, rest.1 (h.0.1, subst (λ n. IsLast P f sc role n s.label) (sym same) h.1)),
      )

  AreStages-calls : (span : Span) (k : ℕ) (c : RCall) (cs : List RCall) → AreStages P f sc Whole k (map (call_stage span) (c ∷ cs) ++ []) ↔ FitFrom k (c ∷ cs)
  AreStages-calls span k c [] = (λ h. (h, tt), λ h. h.0)
  AreStages-calls span k c (d ∷ cs) = let rest = AreStages-calls span (k + 1) d cs in (λ h. (h.0, rest.0 h.1), λ h. (h.0, rest.1 h.1))

  AreStages-effects : (span : Span) (k : ℕ) (c : RCall) (cs : List RCall) → AreStages P f sc Effect k (map (call_stage span) (c ∷ cs) ++ []) ↔ FitFrom k (c ∷ cs)
  AreStages-effects span k c [] = (λ h. (h, tt), λ h. h.0)
  AreStages-effects span k c (d ∷ cs) = let rest = AreStages-effects span (k + 1) d cs in (λ h. (h.0, rest.0 h.1), λ h. (h.0, rest.1 h.1))

  AreStages-test : (span : Span) (k : ℕ) (cs : List RCall) → AreStages P f sc Test k (map (call_stage span) cs ++ []) → ⊥
  AreStages-test span k [] h = h
  AreStages-test span k (c ∷ []) h = h
  AreStages-test span k (c ∷ d ∷ cs) h = AreStages-test span (k + 1) (d ∷ cs) h.1

  AreStages-switch : (span : Span) (k : ℕ) (cs : List RCall) → AreStages P f sc Switch k (map (call_stage span) cs ++ []) → ⊥
  AreStages-switch span k [] h = h
  AreStages-switch span k (c ∷ []) h = h
  AreStages-switch span k (c ∷ d ∷ cs) h = AreStages-switch span (k + 1) (d ∷ cs) h.1

  -- a part has calls that fit, and then what may stand last
  pub AreStages-split : (role : Role) (cs : List RCall) (span : Span) (own : Option LabelTree) → AreStages P f sc role 1 (map (call_stage span) cs ++ own_stage span own) ↔ (AreCalls P sc f.temps cs × IsEnd P f sc role (length cs) own)
  AreStages-split role cs span (Some label) =
      let parts = AreStages-own span role 1 cs (record { label = label; span = span; part = span }) in
      let fit = FitFrom-calls cs in
      (λ h. let both = parts.0 h in (fit.0 both.0, both.1), λ h. parts.1 (fit.1 h.0, h.1))
  AreStages-split Whole [] span None = (λ h. absurd h, λ h. absurd (omega (arith, h.1)))
  AreStages-split Whole (c ∷ cs) span None =
      let parts = AreStages-calls span 1 c cs in
      let fit = FitFrom-calls (c ∷ cs) in
      (λ h. (fit.0 (parts.0 h), omega arith), λ h. parts.1 (fit.1 h.0))
  AreStages-split Effect [] span None = (λ h. absurd h, λ h. absurd (omega (arith, h.1)))
  AreStages-split Effect (c ∷ cs) span None =
      let parts = AreStages-effects span 1 c cs in
      let fit = FitFrom-calls (c ∷ cs) in
      (λ h. (fit.0 (parts.0 h), omega arith), λ h. parts.1 (fit.1 h.0))
  AreStages-split Test cs span None = (λ h. absurd (AreStages-test span 1 cs h), λ h. absurd h.1)
  AreStages-split Switch cs span None = (λ h. absurd (AreStages-switch span 1 cs h), λ h. absurd h.1)
