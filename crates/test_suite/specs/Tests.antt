-- What a test is made of, and the limits of its parts.
use Rattle.std.specs.Prelude.{◌≤◌, ◌==◌, ◌&&◌, ◌||◌, nat_le, ℕ, Bool, List, length, slice_index, IsTrue}
use Rattle.std.specs.List.{AllPass}

-- a test as contracts see it: its name, its budget of turns, and the bytes of its input
pub record TestParts : Type 0 where
  pub name : List ℕ
  pub budget : ℕ
  pub input : List ℕ

-- an ASCII letter or digit, or `_`
abbrev pub starts_name : ℕ → Bool
starts_name byte =
    (nat_le 65 byte && nat_le byte 90) || (nat_le 97 byte && nat_le byte 122) || (nat_le 48 byte && nat_le byte 57) || byte == 95

-- the same, or `-` or `.`
abbrev pub goes_in_name : ℕ → Bool
goes_in_name byte = starts_name byte || byte == 45 || byte == 46

-- the name of a test: 1 to 64 letters, digits, `_`, `-` or `.`, the first a letter, a digit or `_`
pub record IsTestName (name : List ℕ) : Type 0 where
  pub nonempty : 1 ≤ length name
  pub short : length name ≤ 64
  pub first : IsTrue (starts_name (slice_index name 0))
  pub rest : AllPass goes_in_name name

-- the greatest budget of turns
abbrev pub most_budget : ℕ
most_budget = 10000000

-- the greatest number of bytes of an input
abbrev pub most_input : ℕ
most_input = 16384

-- the parts of a test are within their limits
pub record IsWithin (test : TestParts) : Type 0 where
  pub name : IsTestName test.name
  pub budget : test.budget ≤ most_budget
  pub input : length test.input ≤ most_input
