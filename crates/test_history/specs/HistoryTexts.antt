-- The text of a history, in versions 2 and 3 of the format.
use Rattle.std.specs.Prelude.{ℕ, ◌+◌, ◌/◌, Bool, List, [], ◌∷◌, ◌++◌, length, map, codes}
use Rattle.std.specs.Fmt.{decimal}
use Rattle.std.specs.List.{flat_map, range_with_len}
use Rattle.hex.specs.Hex.{encode_lower}
use Rattle.sha2.specs.Sha256.{sha256}
use Rattle.line_text.specs.Bytes.{bytes_or_dash}
use Rattle.line_text.specs.Lines.{text_of_lines}
use Rattle.line_text.specs.Values.{value_line}
use Rattle.line_text.specs.Words.{line_of_words}
use Rattle.csub_types.specs.declared.trap.Trap.{Trap}
use Rattle.csub_types.specs.declared.trap.Trap.TheVariants.{Overflow, Divide, Shift, Bounds, Unset, Flood, Depth, Missing}
use Rattle.csub_semantics.specs.declared.status.Status.{Status}
use Rattle.csub_semantics.specs.declared.status.Status.TheVariants as status
use Rattle.edge_trace.specs.Rows.{byte_of, numbers_of}
use Rattle.test_history.specs.declared.version.Version.{Version}
use Rattle.test_history.specs.declared.version.Version.TheVariants.{Second, Third}
use Rattle.test_history.specs.Histories.{EntryParts, HistoryParts}

-- the name of a trap
abbrev pub trap_name : Trap → List ℕ
trap_name Overflow = codes "overflow"
trap_name Divide = codes "divide"
trap_name Shift = codes "shift"
trap_name Bounds = codes "bounds"
trap_name Unset = codes "unset"
trap_name Flood = codes "flood"
trap_name Depth = codes "depth"
trap_name Missing = codes "missing"

-- the words for how a run ended: `exit N`, `trap NAME` or `turns`
abbrev pub status_words : Status → List (List ℕ)
status_words (status.Exit n) = codes "exit" ∷ decimal n ∷ []
status_words (status.Trap trap) = codes "trap" ∷ trap_name trap ∷ []
status_words status.Turns = codes "turns" ∷ []

-- the words for numbers: each in decimal, or `-` where there are none
abbrev pub words_or_dash : List ℕ → List (List ℕ)
words_or_dash [] = codes "-" ∷ []
words_or_dash (number ∷ more) = decimal number ∷ map decimal more

-- the bytes of a row of N edges, N / 8 of them rounded up: edge 8 * j + i is the bit of value 2 ^ i in byte j
abbrev pub row_bytes : List Bool → List ℕ
row_bytes row = map (byte_of row) (range_with_len 0 ((length row + 7) / 8))

-- what stands for the crossed edges: in version 2 their numbers, rising, and in version 3 the bytes of their row
abbrev pub crossed_text : Version → List Bool → List ℕ
crossed_text Second row = line_of_words (words_or_dash (numbers_of row))
crossed_text Third row = bytes_or_dash (row_bytes row)

-- the line of the crossed edges
abbrev pub crossed_line : Version → List Bool → List ℕ
crossed_line version row = value_line (codes "crossed") (crossed_text version row)

-- the number of a version
abbrev pub version_number : Version → ℕ
version_number Second = 2
version_number Third = 3

-- line 1, which says the version
abbrev pub version_line : Version → List ℕ
version_line version = value_line (codes "dejavu history") (decimal (version_number version))

-- the seven lines of an entry
abbrev pub entry_lines : Version → EntryParts → List (List ℕ)
entry_lines version entry =
    value_line (codes "test") entry.test.name
    ∷ value_line (codes "budget") (decimal entry.test.budget)
    ∷ value_line (codes "input") (bytes_or_dash entry.test.input)
    ∷ line_of_words (codes "status" ∷ status_words entry.status)
    ∷ value_line (codes "turns") (decimal entry.turns)
    ∷ value_line (codes "output") (bytes_or_dash entry.output)
    ∷ crossed_line version entry.crossed
    ∷ []

-- the four lines before the entries
abbrev pub first_lines : Version → HistoryParts → List (List ℕ)
first_lines version history =
    version_line version
    ∷ value_line (codes "source") (encode_lower history.digest)
    ∷ value_line (codes "edges") (decimal history.edges)
    ∷ value_line (codes "tests") (decimal (length history.entries))
    ∷ []

-- all that stands before the line `end`: the first lines, and those of each entry in order
abbrev pub text_before_end : Version → HistoryParts → List ℕ
text_before_end version history =
    text_of_lines (first_lines version history) ++ text_of_lines (flat_map (entry_lines version) history.entries)

-- the line `end`, with the SHA-256 digest of all that stands before it
abbrev pub end_line : List ℕ → List ℕ
end_line before = value_line (codes "end") (encode_lower (sha256 before))

-- the text of a history in a version
abbrev pub versioned_text : Version → HistoryParts → List ℕ
versioned_text version history =
    text_before_end version history ++ text_of_lines (end_line (text_before_end version history) ∷ [])

-- the same with any digest on the line `end`
abbrev pub text_with_sum : Version → HistoryParts → List ℕ → List ℕ
text_with_sum version history sum =
    text_before_end version history ++ text_of_lines (value_line (codes "end") (encode_lower sum) ∷ [])

-- the text of a history: that of version 3, the one that is written
abbrev pub history_text : HistoryParts → List ℕ
history_text history = versioned_text Third history

-- its text in version 2, which is only read
abbrev pub history_text_2 : HistoryParts → List ℕ
history_text_2 history = versioned_text Second history

-- the greatest number of bytes of a history's text
abbrev pub most_history_bytes : ℕ
most_history_bytes = 134217728
