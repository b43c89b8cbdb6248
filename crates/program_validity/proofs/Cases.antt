-- The labels of a `switch`: values of its kind, which differ, and at most one `default`.
use Rattle.std.proofs.Common.{◌≡◌, ◌≢◌, refl, sym, subst, arith, ℕ, ◌+◌, ◌≤◌, ℤ, pos, List, [], ◌∷◌, ◌++◌, All, AllPairs}
use Rattle.std.proofs.Common.{Option, Some, None, Bool, true, false, IsTrue, not, ◌||◌, is_some, option_map, unwrap_or, if◌then◌else◌}
use Rattle.std.specs.List.{list_any}
use Rattle.std.specs.Ordering.{int_eq}
use Rattle.std.proofs.lemmas.Bool.Decides.{Decides-int_eq}
use Rattle.std.proofs.lemmas.List.Elements.{All-nil, All-cons, All-weaker}
use Rattle.std.proofs.lemmas.List.Kept.{AllPairs-cons}
use Rattle.csub_text.specs.declared.span.Span.{Span}
use Rattle.csub_types.specs.declared.kind.IntKind.{IntKind}
use Rattle.csub_types.specs.Kinds.{convert}
use Rattle.csub_tree.specs.Expressions.{span_of}
use Rattle.csub_tree.specs.Statements.{Stmt, Stmts, Line, Declared, Eval, Empty, Block, If, While, Do, For, Switch}
use Rattle.csub_tree.specs.Statements.{Case, Default, Break, Continue, Goto, Label, Return, NoStmts, MoreStmts}
use Rattle.csub_semantics.specs.Successors.{case_of, case_list, case_values, is_default}
use Rattle.csub_rules.specs.Constants.{constant}
use Rattle.csub_rules.specs.FineStmt.{FineStmt, FineLines}
use Rattle.csub_rules.specs.StmtFaults.{Surroundings}
use Rattle.csub_rules.specs.Here.{Here}
use Rattle.csub_rules.specs.Past.{past}
use Rattle.csub_rules.specs.CaseLabels.{CaseLabel, a_value, the_default, label_eq, LabelAt, label_of, with_label}
use Rattle.csub_rules.specs.BrokenLabel.{IsNew, LabelsDiffer}
use Rattle.csub_resolution.specs.Values.{Defined}
use Rattle.csub_resolution.specs.Lines.{line, lines}
use Rattle.csub_validity.specs.Valid.{default_count, AreCases, stmt_count, most_entries}

-- a line is the label that it has by the rules
abbrev IsLabel : CaseLabel → Option ℤ → Bool → Type 0
IsLabel (a_value w) v d = (v ≡ Some w) × (d ≡ false)
IsLabel the_default v d = (v ≡ None) × (d ≡ true)

abbrev IsLabelled : Option LabelAt → Option ℤ → Bool → Type 0
IsLabelled None v d = (v ≡ None) × (d ≡ false)
IsLabelled (Some l) v d = IsLabel l.label v d

-- these labels were seen before: no value is one of them, values differ, and there are so many `default`
record Distinct (seen : List CaseLabel) (vs : List ℤ) (n : ℕ) : Type 0 where
  pairs : AllPairs (λ v w. v ≢ w) vs
  new : All (λ v. IsTrue (not (list_any (label_eq (a_value v)) seen))) vs
  one : n ≤ 1
  none : IsTrue (list_any (label_eq the_default) seen) → n ≡ 0

differs_or : (a b : Bool) → IsTrue (not (a || b)) → IsTrue (not a) × IsTrue (not b)
differs_or true b h = absurd (cc)
differs_or false b h = (refl, h)

no_both : {A : Type 0} (b : Bool) → IsTrue b → IsTrue (not b) → A
no_both true p q = absurd (cc)
no_both false p q = absurd (cc)

apart : (v w : ℤ) → IsTrue (not (int_eq v w)) → w ≢ v
apart v w h e = no_both (int_eq v w) ((Decides-int_eq v w).1 (sym e)) h

step : (c : CaseLabel) (seen : List CaseLabel) (vs : List ℤ) (n : ℕ) (v : Option ℤ) (d : Bool) → IsLabel c v d
    → IsTrue (not (list_any (label_eq c) seen)) → Distinct (c ∷ seen) vs n → Distinct seen (case_list v ++ vs) (if d then n + 1 else n)
step (a_value w) seen vs n None d h new rest = let no = h.0 in absurd (cc)
step (a_value w) seen vs n (Some x) true h new rest = let no = h.1 in absurd (cc)
step (a_value w) seen vs n (Some x) false h new rest =
    let some = h.0 in
    let same : w ≡ x = cc in
    let split = λ (v : ℤ) (p : IsTrue (not (int_eq v w || list_any (label_eq (a_value v)) seen))).
    differs_or (int_eq v w) (list_any (label_eq (a_value v)) seen) p in
    subst (λ y. Distinct seen (y ∷ vs) n) same
    (record {
      pairs = AllPairs-cons (λ v w. v ≢ w) w vs (All-weaker (λ v. IsTrue (not (int_eq v w || list_any (label_eq (a_value v)) seen))) (λ v. w ≢ v) (λ v p. apart v w (split v p).0) vs rest.new) rest.pairs;
      new =
          All-cons (λ v. IsTrue (not (list_any (label_eq (a_value v)) seen))) w vs new
          (All-weaker (λ v. IsTrue (not (int_eq v w || list_any (label_eq (a_value v)) seen)))
          (λ v. IsTrue (not (list_any (label_eq (a_value v)) seen))) (λ v p. (split v p).1) vs rest.new);
      one = rest.one;
      none = rest.none;
    })
step the_default seen vs n (Some x) d h new rest = let no = h.0 in absurd (cc)
step the_default seen vs n None false h new rest = let no = h.1 in absurd (cc)
step the_default seen vs n None true h new rest =
    let zero : n ≡ 0 = rest.none refl in
    record {
      pairs = rest.pairs;
      new = rest.new;
      one = omega arith;
      none = λ p. no_both (list_any (label_eq the_default) seen) p new;
    }

plain : (seen : List CaseLabel) (vs : List ℤ) (n : ℕ) (v : Option ℤ) (d : Bool) → v ≡ None → d ≡ false → Distinct seen vs n
    → Distinct seen (case_list v ++ vs) (if d then n + 1 else n)
plain seen vs n (Some x) d p q rest = absurd (cc)
plain seen vs n None true p q rest = absurd (cc)
plain seen vs n None false p q rest = rest

any_step : (o : Option LabelAt) (seen : List CaseLabel) (vs : List ℤ) (n : ℕ) (v : Option ℤ) (d : Bool) → IsLabelled o v d → IsNew seen o
    → Distinct (with_label seen o) vs n → Distinct seen (case_list v ++ vs) (if d then n + 1 else n)
any_step None seen vs n v d h new rest = plain seen vs n v d h.0 h.1 rest
any_step (Some l) seen vs n v d h new rest = step l.label seen vs n v d h new rest

value_labelled : (k : IntKind) (at : Span) (o : Option ℤ) → IsTrue (not (not (is_some o)))
    → IsLabelled (option_map (λ v. record { label = a_value (convert k v); span = at }) o) (Some (convert k (unwrap_or o (pos 0)))) false
value_labelled k at None h = absurd (cc)
value_labelled k at (Some v) h = (refl, refl)

module _ (defined : List Defined) (result : Option IntKind) (k : IntKind) where
  labelled : (s : Surroundings) (h : Here) (a : Stmt) → FineStmt s h a
      → IsLabelled (label_of k h.scope a) (case_of (line defined result k h a)) (is_default (line defined result k h a))
  labelled s h (Line (Case e) at) f = value_labelled k (span_of e) (constant h.scope e) f.2
  labelled s h (Line Default at) f = (refl, refl)
  labelled s h (Line (Declared d) at) f = (refl, refl)
  labelled s h (Line (Eval e) at) f = (refl, refl)
  labelled s h (Line Empty at) f = (refl, refl)
  labelled s h (Line (Block ss) at) f = (refl, refl)
  labelled s h (Line (If e a b) at) f = (refl, refl)
  labelled s h (Line (While e a) at) f = (refl, refl)
  labelled s h (Line (Do a e) at) f = (refl, refl)
  labelled s h (Line (For b e g a) at) f = (refl, refl)
  labelled s h (Line (Switch e ss) at) f = (refl, refl)
  labelled s h (Line Break at) f = (refl, refl)
  labelled s h (Line Continue at) f = (refl, refl)
  labelled s h (Line (Goto x) at) f = (refl, refl)
  labelled s h (Line (Label x a) at) f = (refl, refl)
  labelled s h (Line (Return e) at) f = (refl, refl)

  distinct : (s : Surroundings) (h : Here) (seen : List CaseLabel) (ss : Stmts) → FineLines s h ss → LabelsDiffer k h seen ss
      → Distinct seen (case_values (lines defined result k h ss)) (default_count (lines defined result k h ss))
  distinct s h seen NoStmts f d =
      record { pairs = λ i j e less below. absurd (omega arith); new = All-nil (λ v. IsTrue (not (list_any (label_eq (a_value v)) seen))); one = omega arith; none = λ p. refl }
  distinct s h seen (MoreStmts a rest) f d =
      any_step (label_of k h.scope a) seen (case_values (lines defined result k (past h a) rest)) (default_count (lines defined result k (past h a) rest))
      (case_of (line defined result k h a)) (is_default (line defined result k h a)) (labelled s h a f.0) d.0 (distinct s (past h a) (with_label seen (label_of k h.scope a)) rest f.1 d.1)

  -- the lines of a `switch`
  pub cases_are : (s : Surroundings) (h : Here) (ss : Stmts) → FineLines s h ss → LabelsDiffer k h [] ss
      → stmt_count (lines defined result k h ss) ≤ most_entries → AreCases (lines defined result k h ss)
  cases_are s h ss f d few = let x = distinct s h [] ss f d in record { few = few; distinct = x.pairs; one = x.one }
