-- The rules S1 to S7 of a suite's lines, and the first line that breaks one.
use Rattle.std.specs.Prelude.{◌≡◌, ◌≤◌, ◌<◌, ◌⊎◌, ⊤, ℕ, List, [], ◌∷◌, length, codes, IsTrue}
use Rattle.std.specs.Prelude.{Option, Some, None}
use Rattle.std.specs.Fmt.{decimal}
use Rattle.hex.specs.Hex.{IsBytes}
use Rattle.line_text.specs.Bytes.{bytes_or_dash}
use Rattle.line_text.specs.Lines.{TextLine, lines_of, line_at}
use Rattle.line_text.specs.Words.{AreWords}
use Rattle.test_suite.specs.Tests.{IsTestName, most_budget, most_input}
use Rattle.test_suite.specs.Suites.{first_line}

-- the rules of a suite's lines
pub data Rule : Type 0 where
  s1 s2 s3 s4 s5 s6 s7 : Rule

-- the number by which a refusal names a rule
abbrev pub number_of : Rule → ℕ
number_of s1 = 1
number_of s2 = 2
number_of s3 = 3
number_of s4 = 4
number_of s5 = 5
number_of s6 = 6
number_of s7 = 7

-- line 1 is asked to keep S1 and S2, every later line S2 to S7
abbrev pub IsAsked : Rule → ℕ → Type 0
IsAsked s1 n = n ≡ 1
IsAsked s2 n = ⊤
IsAsked s3 n = 1 < n
IsAsked s4 n = 1 < n
IsAsked s5 n = 1 < n
IsAsked s6 n = 1 < n
IsAsked s7 n = 1 < n

-- the line has four words: `test` and these three
abbrev pub HasWords : List ℕ → List ℕ → List ℕ → List ℕ → Type 0
HasWords line name budget input = AreWords line (codes "test" ∷ name ∷ budget ∷ input ∷ [])

-- the word is a number up to 10,000,000
abbrev pub IsBudget : List ℕ → Type 0
IsBudget word = (budget : ℕ) × (budget ≤ most_budget) × (word ≡ decimal budget)

-- the word is `-` or hexadecimal
abbrev pub IsInput : List ℕ → Type 0
IsInput word = (input : List ℕ) × IsBytes input × (word ≡ bytes_or_dash input)

-- the input that the word stands for has at most 16,384 bytes
abbrev pub IsShortInput : List ℕ → Type 0
IsShortInput word = (input : List ℕ) → IsBytes input → word ≡ bytes_or_dash input → length input ≤ most_input

-- the line keeps the rule; S4 to S7 speak of the words of a line that keeps S3
abbrev pub Keeps : Rule → TextLine → Type 0
Keeps s1 line = line.bytes ≡ first_line
Keeps s2 line = IsTrue line.is_ended
Keeps s3 line = (name budget input : List ℕ) × HasWords line.bytes name budget input
Keeps s4 line = (name budget input : List ℕ) → HasWords line.bytes name budget input → IsTestName name
Keeps s5 line = (name budget input : List ℕ) → HasWords line.bytes name budget input → IsBudget budget
Keeps s6 line = (name budget input : List ℕ) → HasWords line.bytes name budget input → IsInput input
Keeps s7 line = (name budget input : List ℕ) → HasWords line.bytes name budget input → IsShortInput input

-- a missing line keeps no rule
abbrev pub KeepsThere : Rule → Option TextLine → Type 0
KeepsThere rule None = ⊥
KeepsThere rule (Some line) = Keeps rule line

-- r is the number of the least rule that is asked of this line, the n-th, and that it breaks
pub record IsLeastBroken (line : Option TextLine) (n r : ℕ) : Type 0 where
  pub rule : Rule
  pub number : r ≡ number_of rule
  pub asked : IsAsked rule n
  pub broken : ¬ KeepsThere rule line
  pub least : (other : Rule) → IsAsked other n → number_of other < r → KeepsThere other line

-- line n is the first that breaks a rule, and r is its least; a text has a line 1 even where that is missing
pub record IsFirstFault (text : List ℕ) (n r : ℕ) : Type 0 where
  pub place : (n ≡ 1) ⊎ ((1 < n) × (n ≤ length (lines_of text)))
  pub least : IsLeastBroken (line_at text n) n r
  pub earlier : (m : ℕ) (rule : Rule) → 1 ≤ m → m < n → IsAsked rule m → KeepsThere rule (line_at text m)
