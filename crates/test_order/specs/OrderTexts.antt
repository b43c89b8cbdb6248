-- The text of an order.
use Rattle.std.specs.Prelude.{ℕ, List, [], ◌∷◌, ◌++◌, length, map, codes, slice_index_or}
use Rattle.std.specs.Fmt.{decimal}
use Rattle.line_text.specs.Lines.{text_of_lines}
use Rattle.line_text.specs.Words.{line_of_words}
use Rattle.test_history.specs.Histories.{EntryParts, names_of}
use Rattle.test_order.specs.declared.placed.Placed.{Placed}

-- the line of a place: `NAME adds GAIN`
abbrev pub place_line : List EntryParts → Placed → List ℕ
place_line entries place = line_of_words (slice_index_or (names_of entries) place.at [] ∷ codes "adds" ∷ decimal place.gain ∷ [])

-- the lines of the places, in their order
abbrev pub place_lines : List EntryParts → List Placed → List (List ℕ)
place_lines entries placed = map (place_line entries) placed

-- the line `ordered K of N`: K of the N tests have a place
abbrev pub count_line : List EntryParts → List Placed → List ℕ
count_line entries placed =
    line_of_words (codes "ordered" ∷ decimal (length placed) ∷ codes "of" ∷ decimal (length entries) ∷ [])

-- the text of an order: the line of each place, and the line of their count
abbrev pub order_text : List EntryParts → List Placed → List ℕ
order_text entries placed = text_of_lines (place_lines entries placed) ++ text_of_lines (count_line entries placed ∷ [])
