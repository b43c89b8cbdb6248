-- The text that lists the points and the edges of a program.
use Rattle.std.specs.Prelude.{ℕ, ◌+◌, ◌-◌, min, Bool, ◌&&◌, List, [], ◌∷◌, ◌++◌, length, take, drop, Option, Some, None, bytes_eq, codes}
use Rattle.std.specs.Char.{is_ascii_whitespace}
use Rattle.std.specs.Fmt.{decimal}
use Rattle.std.specs.List.{flat_map, position_or_len, suffix_len}
use Rattle.line_text.specs.Lines.{TextLine, lines_of, text_of_lines}
use Rattle.line_text.specs.Words.{line_of_words}
use Rattle.csub_text.specs.declared.span.Span.{Span}
use Rattle.csub_objects.specs.Types.{Name}
use Rattle.csub_semantics.specs.Points.{PointTree, point_eq}
use Rattle.csub_semantics.specs.Syntax.{ProgramTree}
use Rattle.csub_semantics.specs.Flows.{PlacedNode, point_list, Edge, edges_from, edge_list, flow_of}
use Rattle.source_place.specs.Places.{place_of, place_text}
use Rattle.explain_report.specs.WalkTexts.{exit_text}

-- ---- what stands at a place of a source

-- the first line, without its newline
abbrev pub first_line : List TextLine → List ℕ
first_line [] = []
first_line (line ∷ more) = line.bytes

-- bytes without the white space at their end
abbrev pub trimmed : List ℕ → List ℕ
trimmed bytes = take (length bytes - suffix_len is_ascii_whitespace bytes) bytes

-- so many bytes are shown at most
abbrev pub most_shown : ℕ
most_shown = 80

-- what the source has at a span: from the span's first byte on the rest of its line, of which at most 80 bytes are shown
abbrev pub source_text : List ℕ → Span → List ℕ
source_text source at = trimmed (first_line (lines_of (take most_shown (drop (min at.start (length source)) source))))

-- ---- lines

-- the point is the one with this name of a function with this name
abbrev pub is_named : Name → PointTree → PlacedNode → Bool
is_named f p n = bytes_eq n.function f && point_eq n.node.point p

-- the number of a point
abbrev pub number_of : ProgramTree → Name → PointTree → ℕ
number_of P f p = position_or_len (is_named f p) (point_list P)

-- the number of the point to which a way out leads in a function (one that leads nowhere is none of a program's)
abbrev pub target_text : ProgramTree → Name → Option PointTree → List ℕ
target_text P f None = codes "none"
target_text P f (Some q) = decimal (number_of P f q)

-- the line of point p: `point P FUNCTION L:C TEXT`
abbrev pub point_line : ProgramTree → List ℕ → ℕ → PlacedNode → List ℕ
point_line P source p n = line_of_words
    (codes "point" ∷ decimal p ∷ n.function ∷ place_text (place_of source n.node.span) ∷ source_text source n.node.span ∷ [])

-- the line of edge e, which leaves point p: `edge E P EXIT Q`, Q the number of the point to which it leads
abbrev pub edge_line : ProgramTree → ℕ → ℕ → Edge → List ℕ
edge_line P p e edge = line_of_words
    (codes "edge" ∷ decimal e ∷ decimal p ∷ exit_text edge.exit
    ∷ target_text P edge.function ((flow_of P).succ edge.function edge.from edge.exit) ∷ [])

-- the lines of edges of point p, of which the first has the number e
abbrev pub edge_lines : ProgramTree → ℕ → ℕ → List Edge → List (List ℕ)
edge_lines P p e [] = []
edge_lines P p e (edge ∷ more) = edge_line P p e edge ∷ edge_lines P p (e + 1) more

-- the number of the first edge of point p: as many edges leave the points before it
abbrev pub first_edge : ProgramTree → ℕ → ℕ
first_edge P p = length (flat_map edges_from (take p (point_list P)))

-- the lines of points, of which the first has the number p: each point with the edges that leave it behind it
abbrev pub point_lines : ProgramTree → List ℕ → ℕ → List PlacedNode → List (List ℕ)
point_lines P source p [] = []
point_lines P source p (n ∷ more) =
    (point_line P source p n ∷ edge_lines P p (first_edge P p) (edges_from n)) ++ point_lines P source (p + 1) more

-- the line `end POINTS EDGES`: so many points and edges there are
abbrev pub end_line : ProgramTree → List ℕ
end_line P = line_of_words (codes "end" ∷ decimal (length (point_list P)) ∷ decimal (length (edge_list P)) ∷ [])

-- the whole text, by the program and its source
abbrev pub points_text : ProgramTree → List ℕ → List ℕ
points_text P source = text_of_lines (codes "points 1" ∷ (point_lines P source 0 (point_list P) ++ end_line P ∷ []))
