-- The text on tests that ran again.
use Rattle.std.specs.Prelude.{ℕ, Bool, true, false, nat_eq, if◌then◌else◌, List, [], ◌∷◌, ◌++◌, length, map, codes}
use Rattle.std.specs.Fmt.{decimal}
use Rattle.std.specs.Str.{bytes_eq}
use Rattle.line_text.specs.Bytes.{bytes_or_dash}
use Rattle.line_text.specs.Lines.{text_of_lines}
use Rattle.line_text.specs.Words.{line_of_words}
use Rattle.csub_semantics.specs.declared.status.Status.{Status}
use Rattle.test_history.specs.Histories.{EntryParts}
use Rattle.test_history.specs.HistoryTexts.{status_words}
use Rattle.test_select.specs.declared.choice.Choice.{Choice}
use Rattle.rerun_report.specs.Reruns.{Outcome, was_left, ran_again, outcomes, status_eq, behaves_as, differ_count}

-- what is told of a part: nothing where it is the same, and else ` WORD A to B`
abbrev pub part_text : Bool → List ℕ → List ℕ → List ℕ → List ℕ
part_text true word a b = []
part_text false word a b = 32 ∷ line_of_words (word ∷ a ∷ codes "to" ∷ b ∷ [])

-- of two outputs: each in hexadecimal, or `-` where it is empty
abbrev pub output_text : List ℕ → List ℕ → List ℕ
output_text a b = part_text (bytes_eq a b) (codes "output") (bytes_or_dash a) (bytes_or_dash b)

-- of two statuses: `exit N`, `trap NAME` or `turns`
abbrev pub status_text : Status → Status → List ℕ
status_text a b = part_text (status_eq a b) (codes "status") (line_of_words (status_words a)) (line_of_words (status_words b))

-- of two numbers of turns
abbrev pub turns_text : ℕ → ℕ → List ℕ
turns_text a b = part_text (nat_eq a b) (codes "turns") (decimal a) (decimal b)

-- of an entry and a result: each part that is not the same
abbrev pub parts_text : EntryParts → EntryParts → List ℕ
parts_text entry result =
    output_text entry.output result.output ++ status_text entry.status result.status ++ turns_text entry.turns result.turns

-- a word and a test's name
abbrev pub name_line : List ℕ → EntryParts → List ℕ
name_line word entry = line_of_words (word ∷ entry.test.name ∷ [])

-- the line of a test: `left NAME`, `same NAME`, or `differs NAME` and the parts that are not the same
abbrev pub outcome_line : Outcome → List ℕ
outcome_line (was_left entry) = name_line (codes "left") entry
outcome_line (ran_again entry result) =
    if behaves_as entry result then name_line (codes "same") entry else name_line (codes "differs") entry ++ parts_text entry result

-- the lines of the tests, in their order
abbrev pub rerun_lines : List EntryParts → List Choice → List EntryParts → List (List ℕ)
rerun_lines entries choices results = map outcome_line (outcomes entries choices results)

-- the line `differ K of N`: K of the N tests differ
abbrev pub count_line : ℕ → ℕ → List ℕ
count_line differ all = line_of_words (codes "differ" ∷ decimal differ ∷ codes "of" ∷ decimal all ∷ [])

-- the text: the line of each test, and the line of their count
abbrev pub rerun_text : List EntryParts → List Choice → List EntryParts → List ℕ
rerun_text entries choices results =
    text_of_lines (rerun_lines entries choices results)
    ++ text_of_lines (count_line (differ_count entries choices results) (length entries) ∷ [])
