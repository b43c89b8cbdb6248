-- From what the reader of a history answers, in a version of the format, to the history or to what is told of it.
use Rattle.std.proofs.Common.{◌≡◌, ◌≢◌, ◌<◌, ◌≤◌, ◌∙◌, List, ℕ, Some, None, Result, Ok, Err, refl, sym, subst, length, arith, MatchResult}
use Rattle.sha2.specs.Sha256.{sha256}
use Rattle.csub_semantics.specs.Syntax.{ProgramTree}
use Rattle.csub_semantics.specs.Flows.{edge_list}
use Rattle.test_history.specs.Causes.{HasHistoryCause, HasNoCause}
use Rattle.test_history.specs.Histories.{HistoryParts, IsReadable}
use Rattle.test_history.specs.HistoryTexts.{versioned_text}
use Rattle.test_history.specs.declared.error.HistoryError.{HistoryError}
use Rattle.test_history.specs.declared.error.HistoryError.TheVariants.{TooLong, Memory}
use Rattle.test_history.specs.declared.version.Version.{Version}
use Rattle.command_refusals.specs.Causes.{history_cause}
use Rattle.command_refusals.specs.declared.history.HistoryCause.{HistoryCause}
use Rattle.command_files.specs.Causes.{NoHistory}
use Rattle.command_files.specs.Record.{IsHistoryFile}
use Rattle.command_files.specs.Steps.{IsOnlyHistory}

no_cause : {cause : HistoryCause} → None ≡ Some cause → ⊥
no_cause h = cc

-- an error of which something is told is no want of memory
not_memory : (error : HistoryError) (cause : HistoryCause) → history_cause error ≡ Some cause → error ≡ Memory → ⊥
not_memory error cause is memory = no_cause (subst (λ e. history_cause e ≡ Some cause) memory is)

module _ (version : Version) (bytes old : List ℕ) (edges : ℕ) (P : ProgramTree) (counted : edges ≡ length (edge_list P)) where
  -- that an answer is the one for a history, save for want of memory
  abbrev IsBack : (HistoryParts → Type 0) → Type 0
  IsBack answers = (history : HistoryParts) → IsReadable history → bytes ≡ versioned_text version history
      → length bytes ≤ 134217728 → history.digest ≡ sha256 old → history.edges ≡ edges → answers history

  pub no_history : (error : HistoryError) (cause : HistoryCause) → history_cause error ≡ Some cause → IsBack (λ history. error ≡ Memory)
      → HasHistoryCause version bytes old edges error → NoHistory version old bytes P cause
  no_history error cause told back why = record {
    none = λ history is. not_memory error cause told (back history is.readable is.text is.short is.digest (is.edges ∙ sym counted));
    error = error;
    why = subst (λ n. HasHistoryCause version bytes old n error) counted why;
    is = told;
  }

  -- what is refused for no cause is no longer than a history may be
  no_longer : HasNoCause version bytes old edges → length bytes ≤ 134217728
  no_longer none = omega (arith, λ (long : 134217728 < length bytes). not_too_long (none (TooLong (length bytes)) (refl, long)))
    where
      not_too_long : TooLong (length bytes) ≡ Memory → ⊥
      not_too_long h = cc

  pub only_history : (found : HistoryParts) → bytes ≡ versioned_text version found → IsReadable found → found.digest ≡ sha256 old → found.edges ≡ edges
      → HasNoCause version bytes old edges → IsBack (λ history. found ≡ history) → IsOnlyHistory version old bytes P found
  only_history found text readable digest many none back = record {
    file = record { text = text; short = no_longer none; readable = readable; digest = digest; edges = many ∙ counted };
    only = λ other is. back other is.readable is.text is.short is.digest (is.edges ∙ sym counted);
  }
