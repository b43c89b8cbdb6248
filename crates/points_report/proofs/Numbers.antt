-- The numbers of points and edges: where a point stands, and that the edges of a point follow those of the points before it.
use Rattle.std.proofs.Common.{◌≡◌, ℕ, zero, suc, ◌+◌, ◌-◌, ◌<◌, ◌≤◌, Bool, true, false, List, [], ◌∷◌, length, map, get_or, Option, Some, None, refl, sym, ap, ◌∙◌, arith}
use Rattle.std.specs.Prelude.{slice_get}
use Rattle.std.specs.Fmt.{decimal}
use Rattle.std.specs.Option.{option_map}
use Rattle.std.proofs.lemmas.Bool.{and_parts, and_from}
use Rattle.std.proofs.lemmas.List.{length-map, get_or-map}
use Rattle.std.proofs.lemmas.List.Concat.{get_or-flat_map}
use Rattle.std.proofs.lemmas.List.Folds.{length-flat_map-take}
use Rattle.std.proofs.lemmas.List.Sums.{position_or_len_is}
use Rattle.std.proofs.lemmas.Option.{slice_get_within, slice_get-get_or, get_or_from_slice_get, slice_get-map}
use Rattle.csub_objects.specs.Types.{Name}
use Rattle.csub_semantics.specs.Points.{PointTree}
use Rattle.csub_semantics.specs.Syntax.{ProgramTree}
use Rattle.csub_semantics.specs.Successors.{Way}
use Rattle.csub_semantics.specs.Flows.{PlacedNode, point_list, Edge, edges_from, edge_list}
use Rattle.csub_semantics.specs.Numbers.{Site, site, site_of, site_at, edge_at}
use Rattle.csub_core.specs.Valid.{IsValid}
use Rattle.program_laws.proofs.LawsNames.{same_name, name_itself, same_point, point_itself}
use Rattle.flow_graph.specs.Graph.{Tables, IsGraphOf, NamedPoint, way_count, way_count_at, way_at, way_of, point_at, point_of, source_at}
use Rattle.flow_graph.proofs.LawsLists.{made_of}
use Rattle.flow_graph.proofs.LawsPlaces.{site_one}
use Rattle.points_report.specs.PointTexts.{is_named, number_of, target_text, first_edge}

-- within a list stands an element
pub element : {X : Type 0} (xs : List X) (k : ℕ) → k < length xs → (x : X) × (slice_get xs k ≡ Some x)
element [] k within = absurd (omega arith)
element (x ∷ xs) zero within = (x, refl)
element (x ∷ xs) (suc k) within = element xs k (omega arith)

-- ---- points

-- a test that would show what is not so
fails : (b : Bool) → (b ≡ true → ⊥) → b ≡ false
fails true h = absurd (h refl)
fails false h = refl

-- a point of a list is the one of these names, or it is another
named : (f : Name) (p : PointTree) (n : PlacedNode) → is_named f p n ≡ true → site_of n ≡ site f p
named f p n is =
    let both = and_parts _ _ is in
    let function : n.function ≡ f = same_name n.function f both.0 in
    let point : n.node.point ≡ p = same_point n.node.point p both.1 in
    cc

named_itself : (f : Name) (p : PointTree) (n : PlacedNode) → site_of n ≡ site f p → is_named f p n ≡ true
named_itself f p n is =
    let function : n.function ≡ f = ap (λ (s : Site). s.function) is in
    let point : n.node.point ≡ p = ap (λ (s : Site). s.point) is in
    rw (function, point) (and_from _ _ (name_itself f) (point_itself p))

-- a point has the number at which it stands
pub number_told : (P : ProgramTree) (n : ℕ) (f : Name) (p : PointTree) → IsValid P → site_at P n ≡ Some (site f p) → number_of P f p ≡ n
number_told P n f p valid is =
    let made = made_of site_of (slice_get (point_list P) n) (site f p) is in
    let within = slice_get_within (point_list P) n made.value made.is in
    position_or_len_is (is_named f p) (point_list P) n made.value (omega arith) (before made.value within) (λ l. there made.value made.is made.gives)
  where
    before : (d : PlacedNode) → n < length (point_list P) → (k : ℕ) → k < n → is_named f p (get_or (point_list P) k d) ≡ false
    before d within k less =
        let stands : slice_get (point_list P) k ≡ Some (get_or (point_list P) k d) = slice_get-get_or (point_list P) k d (omega arith) in
        fails _ (λ t.
        let at : site_at P k ≡ Some (site f p) = ap (option_map site_of) stands ∙ ap Some (named f p (get_or (point_list P) k d) t) in
        let same : k ≡ n = site_one P valid k n (site f p) at is in
        omega arith)

    there : (d : PlacedNode) → slice_get (point_list P) n ≡ Some d → site_of d ≡ site f p → is_named f p (get_or (point_list P) n d) ≡ true
    there d stands same = ap (is_named f p) (get_or_from_slice_get (point_list P) n d d stands) ∙ named_itself f p d same

-- what is told of the point to which a way out leads
pub target_told : (P : ProgramTree) (f : Name) (q : Option PointTree) (to : ℕ) → IsValid P → to < length (point_list P) → site_at P to ≡ option_map (site f) q
    → decimal to ≡ target_text P f q
target_told P f None to valid within is =
    let stands = element (point_list P) to within in
    let some : site_at P to ≡ Some (site_of stands.0) = ap (option_map site_of) stands.1 in
    absurd (cc)
target_told P f (Some q) to valid within is = ap decimal (sym (number_told P to f q valid is))

-- ---- edges

-- a point has as many ways out in a graph as in its program
pub ways_told : (g : Tables) (P : ProgramTree) (p : ℕ) (n : PlacedNode) → IsGraphOf g P → slice_get (point_list P) p ≡ Some n → way_count_at g p ≡ length (edges_from n)
ways_told g P p n ok stands =
    let shown : slice_get (map (point_at P) g.1) p ≡ Some (point_of n) = ap (λ (points : List NamedPoint). slice_get points p) ok.points ∙ slice_get-map point_of (point_list P) p ∙ ap (option_map point_of) stands in
    let made = made_of (point_at P) (slice_get g.1 p) (point_of n) (sym (slice_get-map (point_at P) g.1 p) ∙ shown) in
    let within = slice_get_within g.1 p made.value made.is in
    let ways : map (way_at P) made.value.node.ways.items ≡ map (way_of n.function) n.node.ways = ap (λ (x : NamedPoint). x.node.ways) made.gives in
    get_or-map way_count g.1 p made.value 0 within
    ∙ ap way_count (get_or_from_slice_get g.1 p made.value made.value made.is)
    ∙ sym (length-map made.value.node.ways.items (way_at P)) ∙ ap length ways ∙ length-map n.node.ways (way_of n.function)
    ∙ sym (length-map n.node.ways (λ (w : Way PointTree). record { function = n.function; from = n.node.point; exit = w.exit }))

-- the edges of a point follow those of the points before it
pub edge_told : (P : ProgramTree) (p : ℕ) (n : PlacedNode) (k : ℕ) (edge : Edge) → slice_get (point_list P) p ≡ Some n → slice_get (edges_from n) k ≡ Some edge
    → edge_at P (first_edge P p + k) ≡ Some edge
edge_told P p n k edge stands is =
    let points = point_list P in
    let within = slice_get_within points p n stands in
    let few = slice_get_within (edges_from n) k edge is in
    let own : get_or points p n ≡ n = get_or_from_slice_get points p n n stands in
    let among : k < length (edges_from (get_or points p n)) = rw own few in
    let room = length-flat_map-take edges_from points p n within in
    let bound : first_edge P p + k < length (edge_list P) = omega (arith, room, among) in
    slice_get-get_or (edge_list P) (first_edge P p + k) edge bound
    ∙ ap Some (get_or-flat_map edges_from points p k n edge within among ∙ ap (λ (m : PlacedNode). get_or (edges_from m) k edge) own ∙ get_or_from_slice_get (edges_from n) k edge edge is)

-- each of them leaves the point
leaves : (n : PlacedNode) (k : ℕ) (edge : Edge) → slice_get (edges_from n) k ≡ Some edge → site edge.function edge.from ≡ site_of n
leaves n k edge is =
    let h : Way PointTree → Edge = λ (w : Way PointTree). record { function = n.function; from = n.node.point; exit = w.exit } in
    let made = made_of h (slice_get n.node.ways k) edge (sym (slice_get-map h n.node.ways k) ∙ is) in
    ap (λ (x : Edge). site x.function x.from) (sym made.gives)

-- numbers that hold all edges of a point, as many as there are, begin with its first edge
pub begins : (P : ProgramTree) (p : ℕ) (n : PlacedNode) (start end : ℕ) → slice_get (point_list P) p ≡ Some n
    → ((e : ℕ) → source_at P e ≡ Some (site_of n) → (start ≤ e) × (e < end)) → end ≡ start + length (edges_from n) → 0 < length (edges_from n)
    → start ≡ first_edge P p
begins P p n start end stands holds count some =
    let first = within 0 some in
    let final : ℕ = length (edges_from n) - 1 in
    let last = within final (omega arith) in
    omega (arith, first.0, last.1)
  where
    within : (k : ℕ) → k < length (edges_from n) → (start ≤ first_edge P p + k) × (first_edge P p + k < end)
    within k few =
        let edge = element (edges_from n) k few in
        holds (first_edge P p + k)
        (ap (option_map (λ (x : Edge). site x.function x.from)) (edge_told P p n k edge.0 stands edge.1) ∙ ap Some (leaves n k edge.0 edge.1))
