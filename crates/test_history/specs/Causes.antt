-- Why a history is not written, and why a text is not read.
use Rattle.std.specs.Prelude.{◌≡◌, ◌≢◌, ◌<◌, ◌≤◌, ⊤, ℕ, List, length, codes}
use Rattle.sha2.specs.Sha256.{sha256}
use Rattle.test_history.specs.declared.error.HistoryError.{HistoryError}
use Rattle.test_history.specs.declared.error.HistoryError.TheVariants as read
use Rattle.test_history.specs.declared.error.HistoryTextError.{HistoryTextError}
use Rattle.test_history.specs.declared.error.HistoryTextError.TheVariants.{TooLong, Memory}
use Rattle.test_history.specs.declared.version.Version.{Version}
use Rattle.line_text.specs.Values.{IsDigest, HasNumber}
use Rattle.test_history.specs.Histories.{HistoryParts, IsReadable}
use Rattle.test_history.specs.HistoryTexts.{history_text, versioned_text, text_before_end, text_with_sum, version_number, most_history_bytes}
use Rattle.test_history.specs.Rules.{IsFirstFault}

-- what each refusal says of the history; want of memory may come at any
abbrev pub HasTextCause : HistoryParts → HistoryTextError → Type 0
-- its text would have too many bytes, so many
HasTextCause history (TooLong bytes) = (bytes ≡ length (history_text history)) × (most_history_bytes < bytes)
HasTextCause history Memory = ⊤

-- line 1 is `dejavu history` and another number than that of the version, of at most nine digits
pub record IsOfOther (version : Version) (text : List ℕ) (number : ℕ) : Type 0 where
  pub other : number ≢ version_number version
  pub line : HasNumber text 1 (codes "dejavu history") 999999999 number

-- the text is that of a history that can be read, but for the sum on its line `end`
pub record SaysHistory (version : Version) (text : List ℕ) (history : HistoryParts) (sum : List ℕ) : Type 0 where
  pub readable : IsReadable history
  pub written : IsDigest sum
  pub is : text ≡ text_with_sum version history sum

-- what each refusal of a version's reader says of the text, of a source and of a number of edges; want of memory may come at any
abbrev pub HasHistoryCause : Version → List ℕ → List ℕ → ℕ → HistoryError → Type 0
-- the text has too many bytes, so many
HasHistoryCause version text old edges (read.TooLong bytes) = (bytes ≡ length text) × (most_history_bytes < bytes)
-- it has not, and it is of this other version
HasHistoryCause version text old edges (read.Version number) = (length text ≤ most_history_bytes) × IsOfOther version text number
-- it is of no other version, and this is the first line that breaks a rule, with its least
HasHistoryCause version text old edges (read.Malformed n rule) = (length text ≤ most_history_bytes)
    × ((number : ℕ) → ¬ IsOfOther version text number) × IsFirstFault version text n rule
-- no line breaks a rule, and the sum on the line `end` is not that of what stands before
HasHistoryCause version text old edges (read.Sum found computed) = (length text ≤ most_history_bytes)
    × (history : HistoryParts) × SaysHistory version text history found × (computed ≡ sha256 (text_before_end version history)) × (found ≢ computed)
-- the text is right, and is of another source
HasHistoryCause version text old edges (read.Foreign found computed) = (length text ≤ most_history_bytes)
    × (history : HistoryParts) × IsReadable history × (text ≡ versioned_text version history)
    × (found ≡ history.digest) × (computed ≡ sha256 old) × (found ≢ computed)
-- it is of this source, and has another number of edges
HasHistoryCause version text old edges (read.EdgeCount found real) = (length text ≤ most_history_bytes)
    × (history : HistoryParts) × IsReadable history × (text ≡ versioned_text version history) × (history.digest ≡ sha256 old)
    × (found ≡ history.edges) × (real ≡ edges) × (found ≢ real)
HasHistoryCause version text old edges read.Memory = ⊤

-- no refusal but this has a cause, and want of memory
abbrev pub IsOnlyCause : Version → List ℕ → List ℕ → ℕ → HistoryError → Type 0
IsOnlyCause version text old edges error = (other : HistoryError) → HasHistoryCause version text old edges other
    → other ≢ read.Memory → error ≢ read.Memory → other ≡ error

-- no refusal has a cause but want of memory
abbrev pub HasNoCause : Version → List ℕ → List ℕ → ℕ → Type 0
HasNoCause version text old edges = (error : HistoryError) → HasHistoryCause version text old edges error → error ≡ read.Memory
