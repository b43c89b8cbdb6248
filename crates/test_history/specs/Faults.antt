-- What is read of a text, and what the parts of the reader answer of the rest.
use Rattle.std.specs.Prelude.{◌≡◌, ◌≤◌, ◌<◌, ◌+◌, ◌*◌, ◌/◌, ◌%◌, ◌==◌, ⊤, ℕ, Bool, Some, slice_get, List, [], ◌∷◌, ◌++◌, length, codes, drop, slice_index_or}
use Rattle.std.specs.Int.{bit_at}
use Rattle.std.specs.Fmt.{decimal}
use Rattle.hex.specs.Hex.{encode_lower}
use Rattle.csub_core.specs.Valid.{most_edges}
use Rattle.line_text.specs.Lines.{lines_of, text_of_lines}
use Rattle.test_suite.specs.Suites.{most_tests}
use Rattle.test_suite.specs.Tests.{most_budget}
use Rattle.test_history.specs.declared.error.HistoryError.{HistoryError}
use Rattle.test_history.specs.declared.error.HistoryError.TheVariants as error
use Rattle.test_history.specs.declared.fault.Fault.{Fault}
use Rattle.test_history.specs.declared.fault.Fault.TheVariants.{Broken, Memory}
use Rattle.test_history.specs.declared.version.Version.{Version}
use Rattle.test_history.specs.Causes.{IsOfOther}
use Rattle.line_text.specs.Values.{IsDigest, value_line, HasNumber}
use Rattle.test_history.specs.Histories.{EntryParts, IsEntryWithin, IsEntryOfBytes}
use Rattle.test_history.specs.HistoryTexts.{version_line}
use Rattle.test_history.specs.Rules.{Rule, IsAsked, Keeps, IsFirstFault, HasName, SaysEdges, SaysTests}

-- whether the bit of an edge is set in the bytes of a row
abbrev pub bit_of : List ℕ → ℕ → Bool
bit_of bytes edge = bit_at (slice_index_or bytes (edge / 8) 0) (edge % 8) == 1

-- an entry is good in a history of so many edges
pub record IsGoodEntry (edges : ℕ) (entry : EntryParts) : Type 0 where
  pub within : IsEntryWithin entry
  pub row : length entry.crossed ≡ edges
  pub bytes : IsEntryOfBytes entry

-- n lines of the text are read, each keeps the rules of its place, and the rest holds the others
pub record IsReadTo (version : Version) (text : List ℕ) (n : ℕ) (rest : List ℕ) : Type 0 where
  pub lines : drop n (lines_of text) ≡ lines_of rest
  pub keeps : (m : ℕ) (rule : Rule) → m ≤ n → IsAsked text rule m → Keeps version text rule m

-- the entries read so far have tests of these names, and line 4 says that one more is there
pub record IsAtEntry (text : List ℕ) (edges : ℕ) (names : List (List ℕ)) : Type 0 where
  pub bound : SaysEdges text edges
  pub tests : ℕ
  pub says : SaysTests text tests
  pub more : length names < tests
  pub named : (place : ℕ) (name : List ℕ) → slice_get names place ≡ Some name → HasName text (5 + 7 * place) name

-- the four lines before the entries
abbrev pub head_lines : Version → List ℕ → ℕ → ℕ → List (List ℕ)
head_lines version digest edges tests =
    version_line version
    ∷ value_line (codes "source") (encode_lower digest)
    ∷ value_line (codes "edges") (decimal edges)
    ∷ value_line (codes "tests") (decimal tests)
    ∷ []

-- the text begins with them, and the rest follows
pub record IsHead (version : Version) (text digest : List ℕ) (edges tests : ℕ) (rest : List ℕ) : Type 0 where
  pub good : IsDigest digest
  pub few_edges : edges ≤ most_edges
  pub few_tests : tests ≤ most_tests
  pub is : text ≡ text_of_lines (head_lines version digest edges tests) ++ rest

-- the fault of a text of which n lines are read: the first broken rule in a line after them, or want of memory
abbrev pub IsFaultAfter : Version → List ℕ → ℕ → Fault → Type 0
IsFaultAfter version text n (Broken k r) = IsFirstFault version text (n + k) r
IsFaultAfter version text n Memory = ⊤

-- the fault of the rest of a text, at an entry after those with these names
abbrev pub IsEntryFault : Version → List ℕ → ℕ → List (List ℕ) → Fault → Type 0
IsEntryFault version rest edges names fault = (text : List ℕ) → IsAtEntry text edges names → IsReadTo version text (4 + 7 * length names) rest
    → IsFaultAfter version text (4 + 7 * length names) fault

-- the same where the entry's first three lines are read too, and its second says the budget
abbrev pub IsResultsFault : Version → List ℕ → ℕ → ℕ → Fault → Type 0
IsResultsFault version rest edges budget fault = (text : List ℕ) (names : List (List ℕ)) (n : ℕ) → IsAtEntry text edges names
    → n ≡ 4 + 7 * length names → HasNumber text (n + 2) (codes "budget") most_budget budget → IsReadTo version text (n + 3) rest
    → IsFaultAfter version text n fault

-- the fault of the rest of a text after its last entry
abbrev pub IsEndFault : List ℕ → Fault → Type 0
IsEndFault rest fault = (version : Version) (text : List ℕ) (tests : ℕ) → SaysTests text tests → IsReadTo version text (4 + 7 * tests) rest
    → IsFaultAfter version text (4 + 7 * tests) fault

-- the refusal of a text for its entries
abbrev pub IsEntriesRefusal : Version → List ℕ → HistoryError → Type 0
IsEntriesRefusal version text (error.TooLong bytes) = ⊥
IsEntriesRefusal version text (error.Version number) = ⊥
IsEntriesRefusal version text (error.Malformed n r) = IsFirstFault version text n r
IsEntriesRefusal version text (error.Sum found computed) = ⊥
IsEntriesRefusal version text (error.Foreign found computed) = ⊥
IsEntriesRefusal version text (error.EdgeCount found real) = ⊥
IsEntriesRefusal version text error.Memory = ⊤

-- the same, where the rest of the text begins with them
abbrev pub IsRestRefusal : Version → List ℕ → ℕ → ℕ → HistoryError → Type 0
IsRestRefusal version rest edges tests error =
    (text : List ℕ) → SaysEdges text edges → SaysTests text tests → IsReadTo version text 4 rest → IsEntriesRefusal version text error

-- the refusal of a text of which n lines are read
abbrev pub refusal_after : ℕ → Fault → HistoryError
refusal_after n (Broken k r) = error.Malformed (n + k) r
refusal_after n Memory = error.Memory

-- the refusal of a text for its lines: another version, the first fault, or want of memory
abbrev pub IsRefusalOf : Version → List ℕ → HistoryError → Type 0
IsRefusalOf version text (error.TooLong bytes) = ⊥
IsRefusalOf version text (error.Version number) = IsOfOther version text number
IsRefusalOf version text (error.Malformed n r) = ((number : ℕ) → ¬ IsOfOther version text number) × IsFirstFault version text n r
IsRefusalOf version text (error.Sum found computed) = ⊥
IsRefusalOf version text (error.Foreign found computed) = ⊥
IsRefusalOf version text (error.EdgeCount found real) = ⊥
IsRefusalOf version text error.Memory = ⊤
