-- Each edge of a valid program has one number.
use Rattle.std.proofs.Common.{◌≡◌, ◌⊎◌, inl, inr, ◌∙◌, ◌+◌, ℕ, suc, List, [], ◌∷◌, length, Some, refl, sym, ap}
use Rattle.std.specs.List.{slice_get, flat_map}
use Rattle.std.proofs.lemmas.Option.{slice_get-map}
use Rattle.csub_semantics.specs.Points.{PointTree}
use Rattle.csub_semantics.specs.Syntax.{ProgramTree}
use Rattle.csub_semantics.specs.Successors.{Way}
use Rattle.csub_semantics.specs.Flows.{PlacedNode, point_list, Edge, edges_from, edge_list}
use Rattle.csub_semantics.specs.Numbers.{Site, site, site_of}
use Rattle.csub_core.specs.Valid.{IsValid}
use Rattle.program_laws.proofs.LawsWays.{ExitsOnce, ways_differ}
use Rattle.flow_graph.proofs.LawsLists.{slice_get_cases_append, made_of}
use Rattle.flow_graph.proofs.LawsPlaces.{point_placed, points_once}

-- each element stands at one place
abbrev pub Once : {X : Type 0} → List X → Type 0
Once {X} xs = (i j : ℕ) (d : X) → slice_get xs i ≡ Some d → slice_get xs j ≡ Some d → i ≡ j

-- an element of two lists, one behind the other, stands in the one or in the other
abbrev Stands : {X : Type 0} → List X → List X → ℕ → X → Type 0
Stands xs ys k d = (slice_get xs k ≡ Some d) ⊎ ((l : ℕ) × (k ≡ length xs + l) × (slice_get ys l ≡ Some d))

-- no two of these points are the same
abbrev PlacesOnce : List PlacedNode → Type 0
PlacesOnce ms = (i j : ℕ) (a b : PlacedNode) → slice_get ms i ≡ Some a → slice_get ms j ≡ Some b → site_of a ≡ site_of b → i ≡ j

-- none of them has two ways out with one exit label
abbrev WaysOnce : List PlacedNode → Type 0
WaysOnce ms = (i : ℕ) (a : PlacedNode) → slice_get ms i ≡ Some a → ExitsOnce a.node.ways

abbrev edge_by : PlacedNode → Way PointTree → Edge
edge_by m w = record { function = m.function; from = m.node.point; exit = w.exit }

abbrev source_of : Edge → Site
source_of d = site d.function d.from

-- an edge of a point
edge_of_point : (m : PlacedNode) (i : ℕ) (d : Edge) → slice_get (edges_from m) i ≡ Some d → (w : Way PointTree) × (slice_get m.node.ways i ≡ Some w) × (edge_by m w ≡ d)
edge_of_point m i d e =
    let made = made_of (edge_by m) (slice_get m.node.ways i) d (sym (slice_get-map (edge_by m) m.node.ways i) ∙ e) in
    (made.value, made.is, made.gives)

-- an edge of a list of points is one of a point there
edge_among : (ms : List PlacedNode) (k : ℕ) (d : Edge) → slice_get (flat_map edges_from ms) k ≡ Some d → (i : ℕ) × (a : PlacedNode) × (slice_get ms i ≡ Some a) × (site_of a ≡ source_of d)
edge_among [] k d e = absurd (let f : ⊥ = cc in f)
edge_among (m ∷ ms) k d e = step (slice_get_cases_append (edges_from m) (flat_map edges_from ms) k d e) (edge_among ms)
  where
    step : Stands (edges_from m) (flat_map edges_from ms) k d
        → ((j : ℕ) (d : Edge) → slice_get (flat_map edges_from ms) j ≡ Some d → (i : ℕ) × (a : PlacedNode) × (slice_get ms i ≡ Some a) × (site_of a ≡ source_of d))
        → (i : ℕ) × (a : PlacedNode) × (slice_get (m ∷ ms) i ≡ Some a) × (site_of a ≡ source_of d)
    step (inl h) later = let w = edge_of_point m k d h in (0, m, refl, ap source_of w.2)
    step (inr h) later = let l = later h.0 d h.2 in (suc l.0, l.1, l.2, l.3)

edges_once_among : (ms : List PlacedNode) → PlacesOnce ms → WaysOnce ms → Once (flat_map edges_from ms)
edges_once_among [] places ways i j d e g = absurd (let f : ⊥ = cc in f)
edges_once_among (m ∷ ms) places ways i j d e g =
    step (slice_get_cases_append (edges_from m) (flat_map edges_from ms) i d e) (slice_get_cases_append (edges_from m) (flat_map edges_from ms) j d g)
    (edges_once_among ms (λ a b x y p q r. let s = places (suc a) (suc b) x y p q r in cc) (λ a x p. ways (suc a) x p))
  where
    apart : (k l : ℕ) → slice_get (edges_from m) k ≡ Some d → slice_get (flat_map edges_from ms) l ≡ Some d → ⊥
    apart k l h f =
        let w = edge_of_point m k d h in
        let a = edge_among ms l d f in
        let same = places 0 (suc a.0) m a.1 refl a.2 (ap source_of w.2 ∙ sym a.3) in cc

    step : Stands (edges_from m) (flat_map edges_from ms) i d → Stands (edges_from m) (flat_map edges_from ms) j d → Once (flat_map edges_from ms) → i ≡ j
    step (inl h) (inl f) later =
        let w = edge_of_point m i d h in
        let v = edge_of_point m j d f in
        ways 0 m refl i j w.0 v.0 w.1 v.1 (ap (λ (x : Edge). x.exit) (w.2 ∙ sym v.2))
    step (inl h) (inr f) later = absurd (apart i f.0 h f.2)
    step (inr h) (inl f) later = absurd (apart j h.0 f h.2)
    step (inr h) (inr f) later = h.1 ∙ ap (λ n. length (edges_from m) + n) (later h.0 f.0 d h.2 f.2) ∙ sym f.1

pub edges_once : (P : ProgramTree) → IsValid P → Once (edge_list P)
edges_once P valid =
    edges_once_among (point_list P) (points_once P.functions valid.distinct)
    (λ i a e. let is = point_placed P.functions i a e in ways_differ P valid is.place is.function is.there is.index a.node is.node)
