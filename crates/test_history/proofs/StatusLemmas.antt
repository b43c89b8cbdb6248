-- The line of how a run ended.
use Rattle.std.proofs.Common.{◌≡◌, ℕ, List, ◌∷◌, refl}
use Rattle.csub_semantics.specs.declared.status.Status.{Status}
use Rattle.csub_semantics.specs.declared.status.Status.TheVariants as status
use Rattle.line_text.specs.Values.{value_line}
use Rattle.line_text.specs.Words.{line_of_words}
use Rattle.test_history.specs.HistoryTexts.{status_words}

-- it is a word and the words for a status
pub status_line : (word : List ℕ) (s : Status) → line_of_words (word ∷ status_words s) ≡ value_line word (line_of_words (status_words s))
status_line word (status.Exit n) = refl
status_line word (status.Trap trap) = refl
status_line word status.Turns = refl
