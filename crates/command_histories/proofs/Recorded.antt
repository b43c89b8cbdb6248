-- What is carried from the history that `record` writes is the one that it writes for the new source.
use Rattle.std.proofs.Common.{◌≡◌, ℕ, List, [], ◌∷◌, All, map, refl, sym, ap₂, subst}
use Rattle.std.specs.List.{AllZip}
use Rattle.std.proofs.lemmas.List.Elements.{All-cons, All-nil}
use Rattle.csub_semantics.specs.Syntax.{ProgramTree}
use Rattle.csub_answers.specs.Accepted.{Accepted}
use Rattle.test_suite.specs.Tests.{TestParts}
use Rattle.test_history.specs.Histories.{EntryParts, HistoryParts}
use Rattle.test_history.specs.HistoryTexts.{history_text}
use Rattle.carry_history.specs.Recorded.{CarriesRecords}
use Rattle.test_history.specs.Entries.{IsEntry}
use Rattle.command_files.specs.declared.choosing.Selection.{Selection}
use Rattle.command_files.specs.Steps.{IsSelectionOf}
use Rattle.command_histories.specs.Carried.{IsRecordedAnew}
use Rattle.command_histories.specs.Steps.{HasCarried}

module _ (P : ProgramTree) where
  -- each entry of these tests is one of its own test
  own_entries : (tests : List TestParts) (entries : List EntryParts) → AllZip (IsEntry P) tests entries → All (λ (entry : EntryParts). IsEntry P entry.test entry) entries
  own_entries (t ∷ tests) (e ∷ entries) each =
      All-cons (λ (entry : EntryParts). IsEntry P entry.test entry) e entries (subst (λ (asked : TestParts). IsEntry P asked e) (sym each.0.test) each.0) (own_entries tests entries each.1)
  own_entries [] [] each = All-nil (λ (entry : EntryParts). IsEntry P entry.test entry)
  own_entries tests entries each = absurd each

  own_tests : (tests : List TestParts) (entries : List EntryParts) → AllZip (IsEntry P) tests entries → map (λ (entry : EntryParts). entry.test) entries ≡ tests
  own_tests (t ∷ tests) (e ∷ entries) each = ap₂ (λ (test : TestParts) (more : List TestParts). test ∷ more) each.0.test (own_tests tests entries each.1)
  own_tests [] [] each = refl
  own_tests tests entries each = absurd each

pub recorded_anew : (old new bytes : List ℕ) (P P' : ProgramTree) (selection : Selection) (after : HistoryParts) → IsSelectionOf old bytes P P' selection → Accepted new P' → CarriesRecords P P'
    → HasCarried P P' new selection.chosen.choices.items selection.history after → IsRecordedAnew old new bytes (history_text after)
recorded_anew old new bytes P P' selection after selected accepted carries has suite tests recorded reads is text =
    let each = selected.chosen.recorded suite tests recorded reads is text in
    let anew =
    carries selection.chosen.walked has.images selection.chosen.choices.items new selection.history after (own_entries P tests selection.history.entries each)
    selected.walked.walk has.are selected.walked.chooses has.carried in (
      after,
      record {
        program = P';
        accepted = accepted;
        is =
            record {
              digest = has.carried.digest;
              edges = has.carried.edges;
              entries = subst (λ (them : List TestParts). AllZip (IsEntry P') them after.entries) (own_tests P tests selection.history.entries each) anew;
            };
      },
      refl,
    )
