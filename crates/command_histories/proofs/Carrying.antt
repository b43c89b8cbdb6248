-- From the carried history to what is written, or to what is refused.
use Rattle.std.proofs.Common.{◌≡◌, ℕ, List, length, Result, Ok, Err, IfOk, refl, sym, subst}
use Rattle.std.specs.declared.alloc.AllocError.{AllocError}
use Rattle.csub_semantics.specs.Syntax.{ProgramTree}
use Rattle.csub_semantics.specs.Flows.{flow_of}
use Rattle.csub_core.specs.Valid.{IsValid}
use Rattle.program_laws.specs.Bounds.{RunsAreBounded}
use Rattle.csub_answers.specs.Accepted.{Accepted}
use Rattle.test_history.specs.Causes.{HasTextCause}
use Rattle.test_history.specs.Histories.{HistoryParts, IsReadable}
use Rattle.test_history.specs.HistoryTexts.{history_text}
use Rattle.test_history.specs.declared.error.HistoryTextError.TheVariants.{TooLong}
use Rattle.test_select.specs.declared.choice.Choice.{Choice}
use Rattle.edge_images.specs.declared.image.Image.{Image}
use Rattle.edge_images.specs.Images.{AreImages}
use Rattle.carry_history.specs.Carried.{IsCarried}
use Rattle.carry_history.specs.Recorded.{CarriesRecords}
use Rattle.command_refusals.specs.declared.refusal.Product.TheVariants.{History}
use Rattle.command_refusals.specs.declared.refusal.Refusal.TheVariants as refusal
use Rattle.command_files.specs.declared.choosing.Selection.{Selection}
use Rattle.command_files.specs.Steps.{IsSelectionOf}
use Rattle.command_histories.specs.Carried.{IsCarriedText, IsCarriedCause}
use Rattle.command_histories.specs.Steps.{HasCarried}
use Rattle.command_histories.proofs.Recorded.{recorded_anew}
use Rattle.command_histories.proofs.Within.{carried_readable}

-- ---- the history

module _ (P P' : ProgramTree) (new : List ℕ) (images : List Image) (choices : List Choice) (history : HistoryParts) where
  pub has_carried : AreImages P P' images → (r : Result HistoryParts AllocError) → IfOk r (IsCarried P' new images choices history) → IfOk r (HasCarried P P' new choices history)
  has_carried are (Ok after) carried = record { images = images; are = are; carried = carried }
  has_carried are (Err e) carried = tt

  pub is_readable : IsValid P' → RunsAreBounded (flow_of P') → length choices ≡ length history.entries → IsReadable history
      → (r : Result HistoryParts AllocError) → IfOk r (IsCarried P' new images choices history) → IfOk r IsReadable
  is_readable valid bounded many readable (Ok after) carried = carried_readable P' images new choices history after valid bounded many readable carried
  is_readable valid bounded many readable (Err e) carried = tt

-- ---- its text

module _ (old new bytes : List ℕ) (P P' : ProgramTree) where
  module _ (selection : Selection) (after : HistoryParts) (selected : IsSelectionOf old bytes P P' selection) (accepted : Accepted new P') (carries : CarriesRecords P P')
      (has : HasCarried P P' new selection.chosen.choices.items selection.history after) (readable : IsReadable after) where
    is_carried : IsCarriedText old new bytes P P' (history_text after)
    is_carried = record {
      history = selection.history;
      choices = selection.chosen.choices.items;
      chosen = selected.chosen.chosen;
      images = has.images;
      are = has.are;
      after = after;
      carried = has.carried;
      is = refl;
      anew = recorded_anew old new bytes P P' selection after selected accepted carries has;
      readable = readable;
    }

    pub carried_text : (text : List ℕ) → text ≡ history_text after → IsCarriedText old new bytes P P' text
    carried_text text is = subst (IsCarriedText old new bytes P P') (sym is) is_carried

    pub carried_too_long : (count : ℕ) → HasTextCause after (TooLong count) → IsCarriedCause old new bytes P P' (refusal.TooMuch History count)
    carried_too_long count cause = (refl, record { bytes = history_text after; text = is_carried; counted = cause.0; long = cause.1 })
