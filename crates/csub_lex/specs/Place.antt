-- The line and the column of a place in a source, counted from 1.
use Rattle.std.specs.Prelude.{ℕ, ◌+◌, ◌==◌, List, take, count_by, not, reverse}
use Rattle.std.specs.List.{prefix_len}

-- one more than the newlines before the place
abbrev pub line_of : List ℕ → ℕ → ℕ
line_of source at = count_by (λ b. b == 10) (take at source) + 1

-- how many bytes stand behind the last newline, or from the beginning where there is none
unfoldable pub tail_len : List ℕ → ℕ
tail_len bytes = prefix_len (λ b. not (b == 10)) (reverse bytes)

-- one more than the bytes of its line before the place
abbrev pub column_of : List ℕ → ℕ → ℕ
column_of source at = tail_len (take at source) + 1
