-- Where the lines of a source begin.
use Rattle.std.specs.Prelude.{ℕ, ◌≡◌, ◌+◌, ◌≤◌, ◌==◌, List, [], ◌∷◌, length, if◌then◌else◌}

-- the places behind the newlines of bytes of which the first stands at this place
abbrev pub behind_newlines : ℕ → List ℕ → List ℕ
behind_newlines at [] = []
behind_newlines at (byte ∷ more) = if byte == 10 then (at + 1) ∷ behind_newlines (at + 1) more else behind_newlines (at + 1) more

-- the beginnings of a source's lines, rising: its own, and the place behind each newline
abbrev pub line_begins : List ℕ → List ℕ
line_begins source = 0 ∷ behind_newlines 0 source

-- what a table of lines holds
pub record Lines : Type 0 where
  pub begins : List ℕ
  pub end : ℕ

-- the table of a source: the beginnings of its lines, and its length
pub record IsTableOf (source : List ℕ) (table : Lines) : Type 0 where
  pub begins : table.begins ≡ line_begins source
  pub end : table.end ≡ length source

-- a table of a source of at most 1,048,576 bytes
pub record IsTable (table : Lines) : Type 0 where
  pub source : List ℕ
  pub short : length source ≤ 1048576
  pub is : IsTableOf source table
