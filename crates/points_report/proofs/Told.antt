-- Texts that are made line by line.
use Rattle.std.proofs.Common.{◌≡◌, ℕ, ◌+◌, ◌<◌, ◌≤◌, min, Bool, List, [], ◌∷◌, ◌++◌, length, take, drop, Some, sym, ap, ◌∙◌, append_assoc, append-nil, arith}
use Rattle.std.specs.Prelude.{slice_get, codes}
use Rattle.std.specs.Str.{IsTrimAsciiEnd}
use Rattle.std.specs.Fmt.{decimal}
use Rattle.std.proofs.lemmas.List.{at_drop_more, at_drop_all}
use Rattle.std.proofs.lemmas.Option.{slice_get_within, get_or_from_slice_get}
use Rattle.std.proofs.lemmas.Str.Ascii.{trim_ascii_end_is}
use Rattle.line_text.specs.Lines.{lines_of, line_with, text_of_lines}
use Rattle.line_text.specs.Words.{line_of_words}
use Rattle.line_text.proofs.LawsOfTexts.{lines_append}
use Rattle.csub_text.specs.declared.span.Span.{Span}
use Rattle.csub_objects.specs.Types.{Name}
use Rattle.csub_semantics.specs.Points.{ExitTree}
use Rattle.csub_semantics.specs.Syntax.{ProgramTree}
use Rattle.csub_semantics.specs.Flows.{PlacedNode, point_list, Edge, edges_from, edge_list, flow_of}
use Rattle.source_place.specs.declared.place.Place.{Place}
use Rattle.source_place.specs.Places.{place_of, place_text}
use Rattle.explain_report.specs.WalkTexts.{exit_text}
use Rattle.points_report.specs.PointTexts.{first_line, trimmed, most_shown, source_text, target_text, point_line, edge_line, edge_lines, first_edge, point_lines, end_line, points_text}

-- ---- one line

-- the line of an edge, by what is told of its parts
pub edge_parts : (P : ProgramTree) (p e to : ℕ) (edge : Edge) (exit : ExitTree) → exit ≡ edge.exit
    → decimal to ≡ target_text P edge.function ((flow_of P).succ edge.function edge.from edge.exit)
    → line_of_words (codes "edge" ∷ decimal e ∷ decimal p ∷ exit_text exit ∷ decimal to ∷ []) ≡ edge_line P p e edge
edge_parts P p e to edge exit x t =
    ap (λ y. line_of_words (codes "edge" ∷ decimal e ∷ decimal p ∷ exit_text y ∷ decimal to ∷ [])) x
    ∙ ap (λ (y : List ℕ). line_of_words (codes "edge" ∷ decimal e ∷ decimal p ∷ exit_text edge.exit ∷ y ∷ [])) t

-- the line of a point, by what is told of its parts
pub point_parts : (P : ProgramTree) (source : List ℕ) (p : ℕ) (n : PlacedNode) (name : Name) (at : Place) (told : List ℕ)
    → name ≡ n.function → at ≡ place_of source n.node.span → told ≡ source_text source n.node.span
    → line_of_words (codes "point" ∷ decimal p ∷ name ∷ place_text at ∷ told ∷ []) ≡ point_line P source p n
point_parts P source p n name at told f l t =
    ap (λ (y : List ℕ). line_of_words (codes "point" ∷ decimal p ∷ y ∷ place_text at ∷ told ∷ [])) f
    ∙ ap (λ y. line_of_words (codes "point" ∷ decimal p ∷ n.function ∷ place_text y ∷ told ∷ [])) l
    ∙ ap (λ (y : List ℕ). line_of_words (codes "point" ∷ decimal p ∷ n.function ∷ place_text (place_of source n.node.span) ∷ y ∷ [])) t

-- what is shown of a source, by the first line of the bytes that may be shown
pub shown_told : (source text bytes rest shown : List ℕ) (at : Span) (ended : Bool) → text ≡ take most_shown (drop (min at.start (length source)) source)
    → lines_of text ≡ line_with bytes ended ∷ lines_of rest → IsTrimAsciiEnd bytes shown → shown ≡ source_text source at
shown_told source text bytes rest shown at ended t l h = trim_ascii_end_is bytes shown h ∙ ap (λ line. trimmed (first_line line)) (sym l ∙ ap lines_of t)

-- and where there are none
pub nothing_shown : (source text : List ℕ) (at : Span) → text ≡ take most_shown (drop (min at.start (length source)) source) → text ≡ [] → [] ≡ source_text source at
nothing_shown source text at t none = ap (λ x. trimmed (first_line (lines_of x))) (sym none ∙ t)

-- a text with one more line, and the lines that are left
line_added : (before after whole line rest : List ℕ) → after ≡ before ++ line ++ 10 ∷ [] → before ++ (line ++ 10 ∷ rest) ≡ whole → after ++ rest ≡ whole
line_added before after whole line rest h k =
    ap (λ text. text ++ rest) h ∙ append_assoc (before ++ line) (10 ∷ []) rest ∙ append_assoc before line (10 ∷ rest) ∙ k

-- ---- the edges of a point

-- the text so far and the lines of the edges that are left make the whole; the next edge of the point has the number i
pub record MakesEdges (P : ProgramTree) (p : ℕ) (edges : List Edge) (i end : ℕ) (text whole : List ℕ) : Type 0 where
  pub told : ℕ
  pub left : i + length edges ≡ end + told
  pub some : told ≤ length edges
  pub at : told < length edges → i ≡ first_edge P p + told
  pub is : text ++ text_of_lines (edge_lines P p (first_edge P p + told) (drop told edges)) ≡ whole

module _ (P : ProgramTree) (p : ℕ) (edges : List Edge) where
  -- nothing is told yet
  pub edges_first : (i end : ℕ) (text whole : List ℕ) → end ≡ i + length edges → (0 < length edges → i ≡ first_edge P p)
      → whole ≡ text ++ text_of_lines (edge_lines P p (first_edge P p) edges) → MakesEdges P p edges i end text whole
  edges_first i end text whole count begins is =
      let none : first_edge P p + 0 ≡ first_edge P p = omega arith in
      record {
        told = 0;
        left = omega (arith, count);
        some = omega arith;
        at = λ some. begins some ∙ sym none;
        is = ap (λ e. text ++ text_of_lines (edge_lines P p e edges)) none ∙ sym is;
      }

  -- one edge further
  pub edges_next : (i end i' end' : ℕ) (edge : Edge) (before after whole : List ℕ) (m : MakesEdges P p edges i end before whole) → i < end → slice_get edges m.told ≡ Some edge
      → after ≡ before ++ edge_line P p i edge ++ 10 ∷ [] → i' ≡ i + 1 → end' ≡ end → MakesEdges P p edges i' end' after whole
  edges_next i end i' end' edge before after whole m more is h onward ends =
      let left = m.left in
      let within : m.told < length edges = omega (arith, left) in
      let here : i ≡ first_edge P p + m.told = m.at within in
      let e = first_edge P p + m.told in
      let further : e + 1 ≡ first_edge P p + (m.told + 1) = omega arith in
      let rest = edge_lines P p (e + 1) (drop (m.told + 1) edges) in
      let cut : edge_lines P p e (drop m.told edges) ≡ edge_line P p e edge ∷ rest =
      at_drop_more (edge_lines P p e) edges m.told edge within ∙ ap (λ x. edge_line P p e x ∷ rest) (get_or_from_slice_get edges m.told edge edge is) in
      record {
        told = m.told + 1;
        left = omega (arith, left, onward, ends);
        some = omega (arith, within);
        at = λ some. omega (arith, here, onward);
        is = ap (λ n. after ++ text_of_lines (edge_lines P p n (drop (m.told + 1) edges))) (sym further)
            ∙ line_added before after whole (edge_line P p e edge) (text_of_lines rest) (h ∙ ap (λ n. before ++ edge_line P p n edge ++ 10 ∷ []) here)
            (ap (λ lines. before ++ text_of_lines lines) (sym cut) ∙ m.is);
      }

  -- the last one is told
  pub edges_last : (i end : ℕ) (text whole : List ℕ) → MakesEdges P p edges i end text whole → end ≤ i → text ≡ whole
  edges_last i end text whole m none =
      let left = m.left in
      let all : length edges ≤ m.told = omega (arith, left) in
      sym (append-nil text) ∙ ap (λ lines. text ++ text_of_lines lines) (sym (at_drop_all (edge_lines P p (first_edge P p + m.told)) edges m.told all)) ∙ m.is

-- ---- the points

-- the text so far and the lines of the points from a number on make the whole
abbrev pub MakesPoints : ProgramTree → List ℕ → ℕ → List ℕ → List ℕ → Type 0
MakesPoints P source p text whole = text ++ text_of_lines (point_lines P source p (drop p (point_list P))) ≡ whole

lines_joined : (lines others : List (List ℕ)) → text_of_lines (lines ++ others) ≡ text_of_lines lines ++ text_of_lines others
lines_joined lines others =
    sym (append-nil (text_of_lines (lines ++ others))) ∙ lines_append lines others [] ∙ ap (λ rest. text_of_lines lines ++ rest) (append-nil (text_of_lines others))

block_joined : (text line edges rest : List ℕ) → ((text ++ line ++ 10 ∷ []) ++ edges) ++ rest ≡ text ++ ((line ++ 10 ∷ edges) ++ rest)
block_joined text line edges rest = simp append_assoc

-- one point further, with its edges
pub points_next : (P : ProgramTree) (source : List ℕ) (p : ℕ) (n : PlacedNode) (before line after whole : List ℕ) → slice_get (point_list P) p ≡ Some n
    → line ≡ before ++ point_line P source p n ++ 10 ∷ [] → after ≡ line ++ text_of_lines (edge_lines P p (first_edge P p) (edges_from n))
    → MakesPoints P source p before whole → MakesPoints P source (p + 1) after whole
points_next P source p n before line after whole stands a b h =
    let points = point_list P in
    let within = slice_get_within points p n stands in
    let edges = edge_lines P p (first_edge P p) (edges_from n) in
    let rest = point_lines P source (p + 1) (drop (p + 1) points) in
    let cut : point_lines P source p (drop p points) ≡ (point_line P source p n ∷ edges) ++ rest =
    at_drop_more (point_lines P source p) points p n within
    ∙ ap (λ (m : PlacedNode). (point_line P source p m ∷ edge_lines P p (first_edge P p) (edges_from m)) ++ rest) (get_or_from_slice_get points p n n stands) in
    ap (λ text. text ++ text_of_lines rest) (b ∙ ap (λ text. text ++ text_of_lines edges) a)
    ∙ block_joined before (point_line P source p n) (text_of_lines edges) (text_of_lines rest)
    ∙ ap (λ lines. before ++ lines) (sym (lines_joined (point_line P source p n ∷ edges) rest))
    ∙ ap (λ lines. before ++ text_of_lines lines) (sym cut) ∙ h

-- all are told
pub points_last : (P : ProgramTree) (source : List ℕ) (p : ℕ) (text whole : List ℕ) → length (point_list P) ≤ p → MakesPoints P source p text whole → text ≡ whole
points_last P source p text whole all h =
    sym (append-nil text) ∙ ap (λ lines. text ++ text_of_lines lines) (sym (at_drop_all (point_lines P source p) (point_list P) p all)) ∙ h

-- ---- the whole

ends_joined : (first lines last : List ℕ) → (first ++ 10 ∷ []) ++ lines ++ last ++ 10 ∷ [] ≡ first ++ 10 ∷ (lines ++ (last ++ 10 ∷ []))
ends_joined first lines last = simp append_assoc

-- the last line, by the counts of points and edges
end_told : (P : ProgramTree) (points edges : ℕ) → points ≡ length (point_list P) → edges ≡ length (edge_list P)
    → line_of_words (codes "end" ∷ decimal points ∷ decimal edges ∷ []) ≡ end_line P
end_told P points edges p e =
    ap (λ n. line_of_words (codes "end" ∷ decimal n ∷ decimal edges ∷ [])) p ∙ ap (λ n. line_of_words (codes "end" ∷ decimal (length (point_list P)) ∷ decimal n ∷ [])) e

pub text_told : (P : ProgramTree) (source first all whole : List ℕ) (points edges : ℕ) → first ≡ codes "points 1\n" → all ≡ first ++ text_of_lines (point_lines P source 0 (point_list P))
    → whole ≡ all ++ line_of_words (codes "end" ∷ decimal points ∷ decimal edges ∷ []) ++ 10 ∷ [] → points ≡ length (point_list P) → edges ≡ length (edge_list P)
    → whole ≡ points_text P source
text_told P source first all whole points edges a b c p e =
    let lines = point_lines P source 0 (point_list P) in
    c ∙ ap (λ line. all ++ line ++ 10 ∷ []) (end_told P points edges p e)
    ∙ ap (λ text. text ++ end_line P ++ 10 ∷ []) (b ∙ ap (λ text. text ++ text_of_lines lines) a)
    ∙ ends_joined (codes "points 1") (text_of_lines lines) (end_line P)
    ∙ ap (λ rest. codes "points 1" ++ 10 ∷ rest) (sym (lines_joined lines (end_line P ∷ [])))
