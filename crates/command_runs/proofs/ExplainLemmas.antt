-- The text that explains the choice for a test of a history.
use Rattle.std.proofs.Common.{◌≡◌, ◌∙◌, ◌<◌, ◌≤◌, ◌+◌, ℕ, zero, suc, Bool, true, false, List, [], ◌∷◌, length, get_or, Some, Result, Ok, Err, IfOk, inl, inr, refl, sym, ap, subst, arith}
use Rattle.std.specs.Prelude.{slice_get}
use Rattle.std.specs.declared.vec.Vec.{Vec}
use Rattle.std.specs.declared.alloc.Global.{Global}
use Rattle.std.specs.declared.alloc.AllocError.{AllocError}
use Rattle.std.proofs.lemmas.Bool.{cases_lt}
use Rattle.std.proofs.lemmas.Option.{slice_get_within, slice_get-get_or, get_or_from_slice_get}
use Rattle.csub_semantics.specs.Syntax.{ProgramTree}
use Rattle.test_history.specs.Histories.{EntryParts, HistoryParts}
use Rattle.test_select.specs.declared.choice.Choice.{Choice}
use Rattle.explain_report.specs.Explanations.{IsExplainText}
use Rattle.command_refusals.specs.declared.refusal.Refusal.{Refusal}
use Rattle.command_refusals.specs.declared.refusal.Refusal.TheVariants as refusal
use Rattle.test_history.specs.declared.version.Version.TheVariants.{Third}
use Rattle.command_files.specs.Choices.{IsChoice}
use Rattle.command_files.specs.Steps.{HasChosen, IsOnlyHistory, IsHistoryCause}
use Rattle.command_runs.specs.Explain.{IsTestAt, HasTest, IsExplained, HasNoTest}
use Rattle.command_runs.specs.Steps.{IsTestCause, IsNoTestOf}
use Rattle.command_files.proofs.LawsChoices.{many_choices}

-- what stands at a place
item_at : {A : Type 0} (xs : List A) (i : ℕ) → i < length xs → (x : A) × (slice_get xs i ≡ Some x)
item_at [] i h = absurd (omega arith)
item_at (x ∷ xs) zero h = (x, refl)
item_at (x ∷ xs) (suc i) h = item_at xs i (omega arith)

pub not_both : {b : Bool} → b ≡ true → b ≡ false → ⊥
not_both h k = let bad : true ≡ false = sym h ∙ k in cc

-- ---- the test of a name

module _ (entries : List EntryParts) (test : List ℕ) where
  pub found_at : (i : ℕ) (entry : EntryParts) → i < length entries → entry ≡ get_or entries i entry → entry.test.name ≡ test → IsTestAt entries test i
  found_at i entry within is named = record { entry = entry; stands = slice_get-get_or entries i entry within ∙ ap Some (sym is); named = named }

  pub passed_at : (place : ℕ) (entry : EntryParts) → ((i : ℕ) → i < place → IsTestAt entries test i → ⊥) → entry ≡ get_or entries place entry → (entry.test.name ≡ test → ⊥)
      → (i : ℕ) → i < place + 1 → IsTestAt entries test i → ⊥
  passed_at place entry before is other i below at = elim (cases_lt i place) [
    | inl less ↦ before i less at
    | inr past ↦
        let here : i ≡ place = omega (arith, past, below) in
        let read : get_or entries i entry ≡ at.entry = get_or_from_slice_get entries i at.entry entry at.stands in
        let same : entry ≡ at.entry = is ∙ ap (λ (k : ℕ). get_or entries k entry) (sym here) ∙ read in
        other (ap (λ (e : EntryParts). e.test.name) same ∙ at.named)
  ]

  pub none_at : (place : ℕ) → ((i : ℕ) → i < place → IsTestAt entries test i → ⊥) → length entries ≤ place → HasTest entries test → ⊥
  none_at place before all has =
      let within = slice_get_within entries has.0 has.1.entry has.1.stands in
      before has.0 (omega (arith, within, all)) has.1

-- ---- its text

module _ (P P' : ProgramTree) (old new bytes test : List ℕ) (history : HistoryParts) (choices : List Choice) (place : ℕ) where
  pub explained : (r : Result (Vec ℕ Global) AllocError) → HasChosen old bytes P P' history choices → (at : IsTestAt history.entries test place)
      → ((choice : Choice) → slice_get choices place ≡ Some choice → IfOk r (λ text. IsExplainText old new P P' at.entry choice text.items))
      → IfOk r (λ text. IsExplained old new bytes P P' test text.items)
  explained (Err e) has at told = tt
  explained (Ok text) has at told =
      let within = slice_get_within history.entries place at.entry at.stands in
      let many : length choices ≡ length history.entries = many_choices (IsChoice P P') history.entries choices has.chosen.chosen in
      let found = item_at choices place (omega (arith, within, many)) in
      record { history = history; choices = choices; chosen = has.chosen; place = place; at = at; choice = found.0; made = found.1; is = told found.0 found.1 }

-- ---- why there is none

module _ (source bytes : List ℕ) (P : ProgramTree) (test : List ℕ) where
  -- the bytes are no history
  pub no_history_told : (r : Refusal) → IsHistoryCause Third source bytes P r → IsTestCause source bytes P test r
  no_history_told (refusal.History why) cause = cause
  no_history_told refusal.Memory cause = tt
  no_history_told r cause = absurd cause

  -- a history without the test lacks it, since there is no other
  pub lacks_test : (history : HistoryParts) → IsOnlyHistory Third source bytes P history → (HasTest history.entries test → ⊥) → HasNoTest source bytes P test
  lacks_test history read none = record {
    history = history;
    reads = read.file;
    none = λ other file has. none (subst (λ (h : HistoryParts). HasTest h.entries test) (sym (read.only other file)) has);
  }

  pub no_test_told : (r : Refusal) → IsNoTestOf test r → HasNoTest source bytes P test → IsTestCause source bytes P test r
  no_test_told (refusal.NoTest name) told lacks = (told, lacks)
  no_test_told refusal.Memory told lacks = tt
  no_test_told r told lacks = absurd told
