-- What a graph tells of an edge, and the lines of the edges from a number on.
use Rattle.std.proofs.Common.{◌≡◌, ℕ, ◌+◌, ◌<◌, ◌≤◌, Bool, true, false, cond, List, [], ◌∷◌, ◌++◌, Some, length, get_or, drop, sym, ap, ◌∙◌, append_assoc, append-nil}
use Rattle.std.specs.Prelude.{codes}
use Rattle.std.specs.Fmt.{decimal}
use Rattle.std.specs.List.{slice_get}
use Rattle.std.proofs.lemmas.List.{at_drop_more, at_drop_all}
use Rattle.std.proofs.lemmas.Option.{slice_get_within, get_or_from_slice_get}
use Rattle.line_text.specs.Lines.{text_of_lines}
use Rattle.line_text.specs.Words.{line_of_words}
use Rattle.csub_objects.specs.Types.{Name}
use Rattle.csub_semantics.specs.Points.{ExitTree, entry, next}
use Rattle.csub_semantics.specs.Syntax.{ProgramTree}
use Rattle.csub_semantics.specs.Flows.{Edge, PlacedNode, point_list, edge_list, function_of, node_of}
use Rattle.csub_semantics.specs.Numbers.{Site, site_of, site_at}
use Rattle.csub_validity.specs.Valid.{IsValid}
use Rattle.edge_trace.specs.Rows.{has}
use Rattle.flow_graph.proofs.LawsLists.{made_of}
use Rattle.flow_graph.proofs.LawsPlaces.{found}
use Rattle.source_place.specs.declared.place.Place.{Place}
use Rattle.source_place.specs.Places.{place_of, place_text}
use Rattle.explain_report.specs.WalkTexts.{exit_text, span_in, span_of, edge_line, edge_lines, danger_line, pairs_line, walk_text}

-- the point at a number, and its span
pub record IsPlaced (P : ProgramTree) (n : ℕ) (s : Site) : Type 0 where
  pub point : PlacedNode
  pub there : slice_get (point_list P) n ≡ Some point
  pub span : point.node.span ≡ span_in (node_of (function_of P s.function) s.point)

-- a point is known by its function and its name, so that the span at its number is that of its node
pub placed : (P : ProgramTree) (n : ℕ) (s : Site) → IsValid P → site_at P n ≡ Some s → IsPlaced P n s
placed P n s valid is =
    let made = made_of site_of (slice_get (point_list P) n) s is in
    let node = found P.functions n made.value valid.distinct made.is in
    record {
      point = made.value;
      there = made.is;
      span = ap span_in (sym node) ∙ ap (λ (t : Site). span_in (node_of (function_of P t.function) t.point)) made.gives;
    }

-- the line of an edge, by what is told of its parts
pub line_told : (P : ProgramTree) (source : List ℕ) (n : ℕ) (edge : Edge) (name : Name) (at : Place) (exit : ExitTree)
    → name ≡ edge.function → at ≡ place_of source (span_of P edge) → exit ≡ edge.exit
    → line_of_words (codes "edge" ∷ decimal n ∷ name ∷ place_text at ∷ exit_text exit ∷ []) ≡ edge_line P source n edge
line_told P source n edge name at exit f p x =
    ap (λ y. line_of_words (codes "edge" ∷ decimal n ∷ y ∷ place_text at ∷ exit_text exit ∷ [])) f
    ∙ ap (λ y. line_of_words (codes "edge" ∷ decimal n ∷ edge.function ∷ place_text y ∷ exit_text exit ∷ [])) p
    ∙ ap (λ y. line_of_words (codes "edge" ∷ decimal n ∷ edge.function ∷ place_text (place_of source (span_of P edge)) ∷ exit_text y ∷ [])) x

abbrev pub no_edge : Edge
no_edge = record { function = []; from = entry; exit = next }

-- the lines from a number on, where that edge is in the row
line_next : (P : ProgramTree) (source : List ℕ) (row : List Bool) (edges : List Edge) (i : ℕ) (edge : Edge) → slice_get edges i ≡ Some edge → has row i ≡ true
    → edge_lines P source row i (drop i edges) ≡ edge_line P source i edge ∷ edge_lines P source row (i + 1) (drop (i + 1) edges)
line_next P source row edges i edge is among =
    let rest = edge_lines P source row (i + 1) (drop (i + 1) edges) in
    at_drop_more (edge_lines P source row i) edges i edge (slice_get_within edges i edge is)
    ∙ ap (λ b. cond b (edge_line P source i (get_or edges i edge) ∷ rest) rest) among
    ∙ ap (λ e. edge_line P source i e ∷ rest) (get_or_from_slice_get edges i edge edge is)

-- and where it is not
line_passed : (P : ProgramTree) (source : List ℕ) (row : List Bool) (edges : List Edge) (i : ℕ) → i < length edges → has row i ≡ false
    → edge_lines P source row i (drop i edges) ≡ edge_lines P source row (i + 1) (drop (i + 1) edges)
line_passed P source row edges i within other =
    let rest = edge_lines P source row (i + 1) (drop (i + 1) edges) in
    at_drop_more (edge_lines P source row i) edges i no_edge within
    ∙ ap (λ b. cond b (edge_line P source i (get_or edges i no_edge) ∷ rest) rest) other

-- a text with one more line, and the lines that are left
pub line_added : (before after whole line rest : List ℕ) → after ≡ before ++ line ++ 10 ∷ [] → before ++ (line ++ 10 ∷ rest) ≡ whole → after ++ rest ≡ whole
line_added before after whole line rest h k =
    ap (λ text. text ++ rest) h ∙ append_assoc (before ++ line) (10 ∷ []) rest ∙ append_assoc before line (10 ∷ rest) ∙ k

-- the text so far and the lines that are left make the whole: one edge further
abbrev pub Makes : ProgramTree → List ℕ → List Bool → List Edge → ℕ → List ℕ → List ℕ → Type 0
Makes P source row edges i text whole = text ++ text_of_lines (edge_lines P source row i (drop i edges)) ≡ whole

pub makes_next : (P : ProgramTree) (source : List ℕ) (row : List Bool) (edges : List Edge) (i : ℕ) (edge : Edge) (before after whole : List ℕ)
    → slice_get edges i ≡ Some edge → has row i ≡ true → after ≡ before ++ edge_line P source i edge ++ 10 ∷ []
    → Makes P source row edges i before whole → Makes P source row edges (i + 1) after whole
makes_next P source row edges i edge before after whole is among more h =
    line_added before after whole (edge_line P source i edge) (text_of_lines (edge_lines P source row (i + 1) (drop (i + 1) edges))) more
    (ap (λ lines. before ++ text_of_lines lines) (sym (line_next P source row edges i edge is among)) ∙ h)

pub makes_passed : (P : ProgramTree) (source : List ℕ) (row : List Bool) (edges : List Edge) (i : ℕ) (text whole : List ℕ)
    → i < length edges → has row i ≡ false → Makes P source row edges i text whole → Makes P source row edges (i + 1) text whole
makes_passed P source row edges i text whole within other h =
    ap (λ lines. text ++ text_of_lines lines) (sym (line_passed P source row edges i within other)) ∙ h

pub makes_all : (P : ProgramTree) (source : List ℕ) (row : List Bool) (edges : List Edge) (i : ℕ) (text whole : List ℕ)
    → length edges ≤ i → Makes P source row edges i text whole → text ≡ whole
makes_all P source row edges i text whole all h =
    sym (append-nil text) ∙ ap (λ lines. text ++ text_of_lines lines) (sym (at_drop_all (edge_lines P source row i) edges i all)) ∙ h

-- the whole text, line by line
lines_joined : (lines danger pairs : List ℕ) → lines ++ danger ++ 10 ∷ [] ++ pairs ++ 10 ∷ [] ≡ lines ++ text_of_lines (danger ∷ pairs ∷ [])
lines_joined lines danger pairs = simp append_assoc

pub text_made : (P : ProgramTree) (source : List ℕ) (row : List Bool) (counted pairs : ℕ) (none edges danger whole : List ℕ)
    → none ≡ [] → edges ≡ none ++ text_of_lines (edge_lines P source row 0 (edge_list P)) → danger ≡ edges ++ danger_line row (length row) ++ 10 ∷ []
    → whole ≡ danger ++ pairs_line counted ++ 10 ∷ [] → length row ≡ length (edge_list P) → counted ≡ pairs → whole ≡ walk_text P source row pairs
text_made P source row counted pairs none edges danger whole a b c d e f =
    let lines = text_of_lines (edge_lines P source row 0 (edge_list P)) in
    d ∙ ap (λ text. text ++ pairs_line counted ++ 10 ∷ []) (c ∙ ap (λ text. text ++ danger_line row (length row) ++ 10 ∷ []) (b ∙ ap (λ text. text ++ lines) a))
    ∙ lines_joined lines (danger_line row (length row)) (pairs_line counted)
    ∙ ap (λ n. lines ++ text_of_lines (danger_line row n ∷ pairs_line counted ∷ [])) e
    ∙ ap (λ n. lines ++ text_of_lines (danger_line row (length (edge_list P)) ∷ pairs_line n ∷ [])) f
