-- A place in a source as people count, and its text.
use Rattle.std.specs.Prelude.{ℕ, min, List, ◌++◌, length, codes}
use Rattle.std.specs.Fmt.{decimal}
use Rattle.csub_text.specs.declared.span.Span.{Span}
use Rattle.csub_lex.specs.Place.{line_of, column_of}
use Rattle.source_place.specs.declared.place.Place.{Place}

-- the line and the column of the byte at this place
abbrev pub counted : List ℕ → ℕ → Place
counted source at = record { line = line_of source at; column = column_of source at }

-- the place of a span: that of its first byte, and that of the source's end where the span begins behind it
abbrev pub place_of : List ℕ → Span → Place
place_of source at = counted source (min at.start (length source))

-- the text of a place: its line and its column in decimal, as `3:14`
abbrev pub place_text : Place → List ℕ
place_text at = decimal at.line ++ codes ":" ++ decimal at.column
