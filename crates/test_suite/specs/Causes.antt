-- Why a text is refused.
use Rattle.std.specs.Prelude.{◌≡◌, ◌≢◌, ◌<◌, ◌≤◌, ◌+◌, ⊤, ℕ, List, length, take, Some, slice_get, Contains, AllPairs}
use Rattle.test_suite.specs.declared.error.SuiteError.{SuiteError}
use Rattle.test_suite.specs.declared.error.SuiteError.TheVariants.{TooLong, Line, TooMany, Twice, Memory}
use Rattle.test_suite.specs.Tests.{TestParts}
use Rattle.test_suite.specs.Suites.{SaysTests, names_of, most_bytes, most_tests}
use Rattle.test_suite.specs.Rules.{IsFirstFault}

-- the name at this place is the first that stood before
pub record IsFirstRepeat (names : List (List ℕ)) (place : ℕ) : Type 0 where
  pub name : List ℕ
  pub here : slice_get names place ≡ Some name
  pub before : Contains (take place names) name
  pub apart : AllPairs (λ one other. one ≢ other) (take place names)

-- what each refusal says of the text; want of memory may come at any text
abbrev pub HasCause : List ℕ → SuiteError → Type 0
-- the text has too many bytes, so many
HasCause text (TooLong bytes) = (bytes ≡ length text) × (most_bytes < bytes)
-- it has not, and this is the first line that breaks a rule, with its least
HasCause text (Line n rule) = (length text ≤ most_bytes) × IsFirstFault text n rule
-- no line breaks a rule, and there are too many tests, so many
HasCause text (TooMany count) = (length text ≤ most_bytes)
    × (tests : List TestParts) × SaysTests text tests × (count ≡ length tests) × (most_tests < count)
-- there are not, and the test of line n is the first whose name stood on an earlier line; its tests begin at line 2
HasCause text (Twice n) = (length text ≤ most_bytes)
    × (tests : List TestParts) × SaysTests text tests × (length tests ≤ most_tests)
    × (place : ℕ) × IsFirstRepeat (names_of tests) place × (n ≡ place + 2)
HasCause text Memory = ⊤

-- no refusal but this has a cause, and want of memory
abbrev pub IsOnlyCause : List ℕ → SuiteError → Type 0
IsOnlyCause text error = (other : SuiteError) → HasCause text other → other ≢ Memory → error ≢ Memory → other ≡ error

-- no refusal has a cause but want of memory
abbrev pub HasNoCause : List ℕ → Type 0
HasNoCause text = (error : SuiteError) → HasCause text error → error ≡ Memory
