-- The text of a suite, and which lists of tests a suite can hold.
use Rattle.std.specs.Prelude.{◌≡◌, ◌≢◌, ◌≤◌, ℕ, List, [], ◌∷◌, length, map, codes, All, AllPairs}
use Rattle.std.specs.Fmt.{decimal}
use Rattle.hex.specs.Hex.{IsBytes}
use Rattle.line_text.specs.Bytes.{bytes_or_dash}
use Rattle.line_text.specs.Lines.{text_of_lines}
use Rattle.line_text.specs.Words.{line_of_words}
use Rattle.test_suite.specs.Tests.{TestParts, IsWithin}

-- line 1
abbrev pub first_line : List ℕ
first_line = codes "dejavu suite 1"

-- the line of a test: `test`, its name, its budget in decimal, and its input in hexadecimal or `-`
abbrev pub test_line : TestParts → List ℕ
test_line test = line_of_words (codes "test" ∷ test.name ∷ decimal test.budget ∷ bytes_or_dash test.input ∷ [])

-- the text of a suite: line 1, then a line for each test
abbrev pub suite_text : List TestParts → List ℕ
suite_text tests = text_of_lines (first_line ∷ map test_line tests)

-- the greatest number of tests, and of bytes of the text
abbrev pub most_tests : ℕ
most_tests = 8192

abbrev pub most_bytes : ℕ
most_bytes = 16777216

-- the names of these tests, in their order
abbrev pub names_of : List TestParts → List (List ℕ)
names_of tests = map (λ test. test.name) tests

-- a suite can hold these tests
pub record IsSuite (tests : List TestParts) : Type 0 where
  pub within : All IsWithin tests
  pub apart : AllPairs (λ name other. name ≢ other) (names_of tests)
  pub few : length tests ≤ most_tests
  pub short : length (suite_text tests) ≤ most_bytes

-- the text says these tests, each within its limits; their number and their names are free
pub record SaysTests (text : List ℕ) (tests : List TestParts) : Type 0 where
  pub is : text ≡ suite_text tests
  pub within : All IsWithin tests
  pub bytes : All (λ test. IsBytes test.input) tests
