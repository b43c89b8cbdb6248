-- What `rerun` writes: which of the selected tests of a history behave otherwise on the new program.
use Rattle.std.specs.Prelude.{ℕ, ◌≡◌, ◌↔◌, nat_lt, Bool, false, List, [], ◌∷◌, All}
use Rattle.std.specs.List.{AllZip}
use Rattle.csub_semantics.specs.Syntax.{ProgramTree}
use Rattle.test_suite.specs.Tests.{TestParts}
use Rattle.test_history.specs.Histories.{EntryParts, HistoryParts}
use Rattle.test_history.specs.HistoryTexts.{history_text}
use Rattle.test_select.specs.declared.choice.Choice.{Choice}
use Rattle.test_select.specs.declared.choice.Choice.TheVariants.{Selected, Left}
use Rattle.rerun_report.specs.Reruns.{Outcome, outcomes, differs as is_told_to_differ, differ_count}
use Rattle.rerun_report.specs.RerunTexts.{rerun_text}
use Rattle.test_history.specs.Entries.{IsEntry}
use Rattle.command_files.specs.Record.{IsHistoryOf, IsSuiteFile}
use Rattle.command_files.specs.Choices.{IsChosen, BehavesTheSame}

-- the selected tests of a history, in its order
abbrev pub selected_tests : List EntryParts → List Choice → List TestParts
selected_tests (entry ∷ entries) (Selected e ∷ choices) = entry.test ∷ selected_tests entries choices
selected_tests (entry ∷ entries) (Left ∷ choices) = selected_tests entries choices
selected_tests entries choices = []

-- Where the bytes are the history that `record` writes for the old source and a suite, no test differs exactly where every
-- test of the suite, the left ones too, behaves the same on the new program
abbrev pub IsFaithful : List ℕ → List ℕ → ProgramTree → ProgramTree → Bool → Type 0
IsFaithful old bytes P P' differs =
    (suite : List ℕ) (tests : List TestParts) (recorded : HistoryParts) →
    IsSuiteFile suite tests → IsHistoryOf old tests recorded → bytes ≡ history_text recorded →
    (differs ≡ false) ↔ All (BehavesTheSame P P') tests

-- and a test is told to differ exactly where it behaves otherwise, the left ones too
abbrev pub IsFaithfulToEach : List ℕ → List ℕ → ProgramTree → ProgramTree → List Outcome → Type 0
IsFaithfulToEach old bytes P P' told =
    (suite : List ℕ) (tests : List TestParts) (recorded : HistoryParts) →
    IsSuiteFile suite tests → IsHistoryOf old tests recorded → bytes ≡ history_text recorded →
    AllZip (λ test outcome. (is_told_to_differ outcome ≡ false) ↔ BehavesTheSame P P' test) tests told

-- the text of `rerun` for the old source's program, the new program and the bytes of a history file, and whether a test
-- differs: the selected tests ran on the new program
pub record IsRerun (old bytes : List ℕ) (P P' : ProgramTree) (differs : Bool) (text : List ℕ) : Type 0 where
  pub history : HistoryParts
  pub choices : List Choice
  pub chosen : IsChosen old bytes P P' history choices
  pub results : List EntryParts
  pub ran : AllZip (IsEntry P') (selected_tests history.entries choices) results
  pub is : text ≡ rerun_text history.entries choices results
  pub told : differs ≡ nat_lt 0 (differ_count history.entries choices results)
  pub faithful : IsFaithful old bytes P P' differs
  pub each : IsFaithfulToEach old bytes P P' (outcomes history.entries choices results)
