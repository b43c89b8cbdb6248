-- The text of a walk of two programs: the dangerous edges of the old one, and how many pairs are reached.
use Rattle.std.specs.Prelude.{ℕ, ◌+◌, Bool, if◌then◌else◌, List, [], ◌∷◌, ◌++◌, length, Option, Some, None, codes}
use Rattle.std.specs.Fmt.{decimal, signed_decimal}
use Rattle.line_text.specs.Lines.{text_of_lines}
use Rattle.line_text.specs.Words.{line_of_words}
use Rattle.csub_text.specs.declared.span.Span.{Span}
use Rattle.csub_semantics.specs.Points.{PointTree, ExitTree, next, on_true, on_false, on_case, on_default}
use Rattle.csub_semantics.specs.Syntax.{ProgramTree}
use Rattle.csub_semantics.specs.Successors.{Node}
use Rattle.csub_semantics.specs.Flows.{Edge, edge_list, function_of, node_of}
use Rattle.edge_trace.specs.Rows.{has, size}
use Rattle.source_place.specs.Places.{place_of, place_text}

-- a way out as it is told
abbrev pub exit_text : ExitTree → List ℕ
exit_text next = codes "next"
exit_text on_true = codes "true"
exit_text on_false = codes "false"
exit_text (on_case value) = line_of_words (codes "case" ∷ signed_decimal value ∷ [])
exit_text (on_default values) = codes "default"

-- the span of a point (where there is none, any)
abbrev pub span_in : Option (Node PointTree) → Span
span_in None = record { start = 0; end = 0 }
span_in (Some node) = node.span

-- the span of the source point of an edge
abbrev pub span_of : ProgramTree → Edge → Span
span_of P edge = span_in (node_of (function_of P edge.function) edge.from)

-- the line of the edge with number e: `edge E F L:C EXIT`, F its function and L:C the place of its source point
abbrev pub edge_line : ProgramTree → List ℕ → ℕ → Edge → List ℕ
edge_line P source e edge = line_of_words
    (codes "edge" ∷ decimal e ∷ edge.function ∷ place_text (place_of source (span_of P edge)) ∷ exit_text edge.exit ∷ [])

-- the lines of those edges of a list whose numbers are in the row, rising; the first of the list has number e
abbrev pub edge_lines : ProgramTree → List ℕ → List Bool → ℕ → List Edge → List (List ℕ)
edge_lines P source row e [] = []
edge_lines P source row e (edge ∷ more) =
    if has row e then edge_line P source e edge ∷ edge_lines P source row (e + 1) more else edge_lines P source row (e + 1) more

-- the line `dangerous K of N`: the row holds K of N edges
abbrev pub danger_line : List Bool → ℕ → List ℕ
danger_line row all = line_of_words (codes "dangerous" ∷ decimal (size row) ∷ codes "of" ∷ decimal all ∷ [])

-- the line `pairs P`: so many pairs are reached
abbrev pub pairs_line : ℕ → List ℕ
pairs_line pairs = line_of_words (codes "pairs" ∷ decimal pairs ∷ [])

-- the text of a walk, by the old program and its source, the row of its dangerous edges, and the number of reached pairs
abbrev pub walk_text : ProgramTree → List ℕ → List Bool → ℕ → List ℕ
walk_text P source row pairs =
    text_of_lines (edge_lines P source row 0 (edge_list P))
    ++ text_of_lines (danger_line row (length (edge_list P)) ∷ pairs_line pairs ∷ [])
