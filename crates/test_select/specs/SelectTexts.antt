-- The text of a selection.
use Rattle.std.specs.Prelude.{ℕ, List, [], ◌∷◌, ◌++◌, length, map, count_by, codes}
use Rattle.std.specs.Fmt.{decimal}
use Rattle.std.specs.List.{zip}
use Rattle.line_text.specs.Lines.{text_of_lines}
use Rattle.line_text.specs.Words.{line_of_words}
use Rattle.test_history.specs.Histories.{EntryParts}
use Rattle.test_select.specs.declared.choice.Choice.{Choice}
use Rattle.test_select.specs.declared.choice.Choice.TheVariants.{Selected, Left}
use Rattle.test_select.specs.Selection.{is_selected}

-- the line of a test: `run NAME edge E` where it is selected for edge E, and else `left NAME`
abbrev pub choice_line : EntryParts → Choice → List ℕ
choice_line entry (Selected edge) = line_of_words (codes "run" ∷ entry.test.name ∷ codes "edge" ∷ decimal edge ∷ [])
choice_line entry Left = line_of_words (codes "left" ∷ entry.test.name ∷ [])

-- the lines of the tests, in their order
abbrev pub choice_lines : List EntryParts → List Choice → List (List ℕ)
choice_lines entries choices = map (λ both. choice_line both.0 both.1) (zip entries choices)

-- the line `selected K of N`: K of the N tests are selected
abbrev pub count_line : List Choice → List ℕ
count_line choices =
    line_of_words (codes "selected" ∷ decimal (count_by is_selected choices) ∷ codes "of" ∷ decimal (length choices) ∷ [])

-- the text of a selection: the line of each test, and the line of their count
abbrev pub select_text : List EntryParts → List Choice → List ℕ
select_text entries choices = text_of_lines (choice_lines entries choices) ++ text_of_lines (count_line choices ∷ [])
