-- What `gen` writes: the size of a generated pair of programs and its suite, and what the method says of it.
use Rattle.std.specs.Prelude.{ℕ, ◌≡◌, ◌-◌, Bool, List, [], ◌∷◌, length, count_by, codes}
use Rattle.std.specs.List.{AllZip}
use Rattle.std.specs.Fmt.{decimal}
use Rattle.line_text.specs.Lines.{text_of_lines}
use Rattle.line_text.specs.Words.{line_of_words}
use Rattle.csub_semantics.specs.Syntax.{ProgramTree}
use Rattle.csub_semantics.specs.Flows.{point_list, edge_list}
use Rattle.csub_answers.specs.Accepted.{Accepted}
use Rattle.edge_trace.specs.Rows.{size}
use Rattle.test_suite.specs.Tests.{TestParts}
use Rattle.test_history.specs.Histories.{EntryParts}
use Rattle.test_select.specs.declared.choice.Choice.{Choice}
use Rattle.test_select.specs.Selection.{is_selected}
use Rattle.explain_report.specs.Walks.{IsDangerRow}
use Rattle.rerun_report.specs.Reruns.{differ_count}
use Rattle.test_history.specs.Entries.{IsEntry}
use Rattle.dv_gen.specs.Pairs.{old_source, new_source, tests_of}
use Rattle.command_files.specs.Choices.{IsChoice}
use Rattle.command_runs.specs.Rerun.{selected_tests}
use Rattle.command_runs.specs.declared.generate.Measured.{Measured}

-- `gen seed S size N`
abbrev pub seed_line : ℕ → ℕ → List ℕ
seed_line seed count = line_of_words (codes "gen" ∷ codes "seed" ∷ decimal seed ∷ codes "size" ∷ decimal count ∷ [])

-- `functions F points P edges E tests T`
abbrev pub size_line : Measured → List ℕ
size_line m = line_of_words
    (codes "functions" ∷ decimal m.functions ∷ codes "points" ∷ decimal m.points ∷ codes "edges" ∷ decimal m.edges
    ∷ codes "tests" ∷ decimal m.tests ∷ [])

-- `dangerous D selected K differ X`
abbrev pub found_line : Measured → List ℕ
found_line m = line_of_words
    (codes "dangerous" ∷ decimal m.dangerous ∷ codes "selected" ∷ decimal m.selected ∷ codes "differ" ∷ decimal m.differ ∷ [])

-- the text of `gen`
abbrev pub gen_text : ℕ → ℕ → Measured → List ℕ
gen_text seed count m = text_of_lines (seed_line seed count ∷ size_line m ∷ found_line m ∷ [])

-- The counts of an old program, a new one, and tests: the old program's functions without `#start`, its points and edges; the dangerous
-- edges among these; the tests whose run on the old program crosses one, and those of them that differ on the new program
pub record IsMeasured (P P' : ProgramTree) (suite : List TestParts) (m : Measured) : Type 0 where
  pub functions : m.functions ≡ length P.functions - 1
  pub points : m.points ≡ length (point_list P)
  pub edges : m.edges ≡ length (edge_list P)
  pub tests : m.tests ≡ length suite
  pub row : List Bool
  pub danger : IsDangerRow P P' row
  pub dangerous : m.dangerous ≡ size row
  pub entries : List EntryParts
  pub recorded : AllZip (IsEntry P) suite entries
  pub choices : List Choice
  pub chosen : AllZip (IsChoice P P') entries choices
  pub selected : m.selected ≡ count_by is_selected choices
  pub results : List EntryParts
  pub ran : AllZip (IsEntry P') (selected_tests entries choices) results
  pub differ : m.differ ≡ differ_count entries choices results

-- the text of `gen` for a seed and a size: the counts of the sources and the suite that the generator makes
pub record IsGenText (seed count : ℕ) (text : List ℕ) : Type 0 where
  pub old : ProgramTree
  pub new : ProgramTree
  pub accepted : Accepted (old_source seed count) old
  pub new_accepted : Accepted (new_source seed count) new
  pub measured : Measured
  pub counts : IsMeasured old new (tests_of seed count) measured
  pub is : text ≡ gen_text seed count measured
