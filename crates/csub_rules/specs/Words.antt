-- The word that a statement begins with, by its place (C11 6.8).
use Rattle.std.specs.Prelude.{ℕ, ◌+◌, min}
use Rattle.csub_text.specs.declared.span.Span.{Span}

-- the first n bytes of what stands at a place
abbrev pub first_bytes : ℕ → Span → Span
first_bytes n s = record { start = s.start; end = min (s.start + n) s.end }

abbrev pub word_for : Span → Span
word_for s = first_bytes 3 s

abbrev pub word_goto : Span → Span
word_goto s = first_bytes 4 s

abbrev pub word_break : Span → Span
word_break s = first_bytes 5 s

abbrev pub word_return : Span → Span
word_return s = first_bytes 6 s

abbrev pub word_default : Span → Span
word_default s = first_bytes 7 s

abbrev pub word_continue : Span → Span
word_continue s = first_bytes 8 s
