-- What `carry` writes: the history of the new source, for which only the tests ran that must.
use Rattle.std.specs.Prelude.{ℕ, ◌≡◌, List}
use Rattle.csub_semantics.specs.Syntax.{ProgramTree}
use Rattle.test_suite.specs.Tests.{TestParts}
use Rattle.test_history.specs.Histories.{HistoryParts, IsReadable}
use Rattle.test_history.specs.HistoryTexts.{history_text}
use Rattle.test_history.specs.declared.version.Version.TheVariants.{Third}
use Rattle.test_select.specs.declared.choice.Choice.{Choice}
use Rattle.edge_images.specs.declared.image.Image.{Image}
use Rattle.edge_images.specs.Images.{AreImages}
use Rattle.carry_history.specs.Carried.{IsCarried}
use Rattle.command_refusals.specs.declared.refusal.Product.TheVariants.{History}
use Rattle.command_refusals.specs.declared.refusal.Refusal.{Refusal}
use Rattle.command_refusals.specs.declared.refusal.Refusal.TheVariants as refusal
use Rattle.command_files.specs.Causes.{NoHistory}
use Rattle.command_files.specs.Record.{IsHistoryOf, IsSuiteFile}
use Rattle.command_files.specs.Choices.{IsChosen}
use Rattle.command_files.specs.Steps.{IsTooMuch}

-- Where the bytes are the history that `record` writes for the old source and a suite, the text is the one that it writes for
-- the new source and that suite
abbrev pub IsRecordedAnew : (old new bytes text : List ℕ) → Type 0
IsRecordedAnew old new bytes text =
    (suite : List ℕ) (tests : List TestParts) (recorded : HistoryParts) →
    IsSuiteFile suite tests → IsHistoryOf old tests recorded → bytes ≡ history_text recorded →
    (fresh : HistoryParts) × IsHistoryOf new tests fresh × (text ≡ history_text fresh)

-- the text of `carry` for both sources with their programs and the bytes of a history file: an entry is kept, with the images
-- as its edges, where its test is left and each of its edges has one image; the test of each other one ran on the new program;
-- the text can be read back
pub record IsCarriedText (old new bytes : List ℕ) (P P' : ProgramTree) (text : List ℕ) : Type 0 where
  pub history : HistoryParts
  pub choices : List Choice
  pub chosen : IsChosen old bytes P P' history choices
  pub images : List Image
  pub are : AreImages P P' images
  pub after : HistoryParts
  pub carried : IsCarried P' new images choices history after
  pub is : text ≡ history_text after
  pub anew : IsRecordedAnew old new bytes text
  pub readable : IsReadable after

-- it isn't made for want of memory, where the bytes are no history of the old source, or where it would have too many bytes
abbrev pub IsCarriedCause : (old new bytes : List ℕ) → ProgramTree → ProgramTree → Refusal → Type 0
IsCarriedCause old new bytes P P' refusal.Memory = Unit {0}
IsCarriedCause old new bytes P P' (refusal.History cause) = NoHistory Third old bytes P cause
IsCarriedCause old new bytes P P' (refusal.TooMuch product count) = (product ≡ History) × IsTooMuch (IsCarriedText old new bytes P P') count
IsCarriedCause old new bytes P P' r = ⊥
