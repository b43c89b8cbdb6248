-- The numbers of edges.
use Rattle.std.proofs.Common.{◌≡◌, List, [], ◌∷◌, ◌∙◌, zero, suc, arith, map, refl, ap, sym, ℕ, ◌+◌, ◌-◌, ◌<◌, ◌≤◌, length, Some, ⊎_elim}
use Rattle.std.specs.Prelude.{replicate}
use Rattle.std.specs.List.{slice_get, flat_map, sum_by}
use Rattle.std.proofs.lemmas.List.{length-append, length-map, length-replicate}
use Rattle.std.proofs.lemmas.List.Sums.{sum_by-cons}
use Rattle.std.proofs.lemmas.Option.{slice_get_within, same_Some}
use Rattle.csub_semantics.specs.Flows.{PlacedNode, Edge, edges_from}
use Rattle.flow_graph.specs.declared.node.GraphPoint.{GraphPoint}
use Rattle.flow_graph.specs.Graph.{way_count, firsts_of, sources_of}
use Rattle.flow_graph.proofs.LawsLists.{slice_get-left, slice_get-right, slice_get_cases_append, rest_of, head_or}

pub firsts-length : (ps : List GraphPoint) (e : ℕ) → length (firsts_of ps e) ≡ length ps
firsts-length [] e = refl
firsts-length (p ∷ ps) e = ap suc (firsts-length ps (e + way_count p))

pub sources-length : (ps : List GraphPoint) (n : ℕ) → length (sources_of ps n) ≡ sum_by way_count ps
sources-length [] n = refl
sources-length (p ∷ ps) n =
    length-append (replicate (way_count p) n) (sources_of ps (n + 1))
    ∙ ap (λ k. k + length (sources_of ps (n + 1))) (length-replicate (way_count p) n)
    ∙ ap (λ k. way_count p + k) (sources-length ps (n + 1))
    ∙ sym (sum_by-cons way_count p ps)

same_replicated : (c n k x : ℕ) → slice_get (replicate c n) k ≡ Some x → x ≡ n
same_replicated zero n k x e = absurd cc
same_replicated (suc c) n zero x e = sym (same_Some n x e)
same_replicated (suc c) n (suc k) x e = same_replicated c n k x e

-- an edge by its source point: the point j has it as its i-th way out
pub record Source (ps : List GraphPoint) (n e k from : ℕ) : Type 0 where
  pub place : ℕ
  pub index : ℕ
  pub first : ℕ
  pub point : GraphPoint
  pub is_from : from ≡ n + place
  pub is_point : slice_get ps place ≡ Some point
  pub is_first : slice_get (firsts_of ps e) place ≡ Some first
  pub is_edge : e + k ≡ first + index
  pub within : index < way_count point

pub source : (ps : List GraphPoint) (n e k from : ℕ) → slice_get (sources_of ps n) k ≡ Some from → Source ps n e k from
source [] n e k from h = absurd cc
source (p ∷ ps) n e k from h =
    ⊎_elim
    (λ g. let is = same_replicated (way_count p) n k from g in
    let within = slice_get_within (replicate (way_count p) n) k from g in
    let long = length-replicate (way_count p) n in
    record { place = 0; index = k; first = e; point = p; is_from = omega arith; is_point = refl; is_first = refl; is_edge = refl; within = omega arith })
    (λ g. let later = source ps (n + 1) (e + way_count p) g.0 from g.2 in
    let at_edge = later.is_edge in
    let before = g.1 in
    let long = length-replicate (way_count p) n in
    record {
      place = suc later.place;
      index = later.index;
      first = later.first;
      point = later.point;
      is_from = later.is_from ∙ omega arith;
      is_point = later.is_point;
      is_first = later.is_first;
      is_edge = omega arith;
      within = later.within;
    })
    (slice_get_cases_append (replicate (way_count p) n) (sources_of ps (n + 1)) k from h)

first_from : (ps : List GraphPoint) (e n first : ℕ) → slice_get (firsts_of ps e) n ≡ Some first → e ≤ first
first_from [] e n first h = absurd cc
first_from (p ∷ ps) e zero first h = let same = same_Some e first h in omega arith
first_from (p ∷ ps) e (suc n) first h = omega (arith, first_from ps (e + way_count p) n first h)

-- the edges of a point stand together, from its first on
pub edge_place : (ps : List GraphPoint) (ms : List PlacedNode) (e n i first k : ℕ) (p : GraphPoint) (m : PlacedNode) (x : Edge) → map way_count ps ≡ map (λ m. length m.node.ways) ms → slice_get (firsts_of ps e) n ≡ Some first → slice_get ms n ≡ Some m → first + i ≡ e + k → slice_get (edges_from m) i ≡ Some x → slice_get (flat_map edges_from ms) k ≡ Some x
edge_place [] ms e n i first k p m x h f g s t = absurd cc
edge_place (q ∷ ps) [] e n i first k p m x h f g s t = absurd cc
edge_place (q ∷ ps) (o ∷ ms) e zero i first k p m x h f g s t =
    let same_first = same_Some e first f in
    let same_place : k ≡ i = omega arith in
    slice_get-left (edges_from o) (flat_map edges_from ms) k x (ap (λ j. slice_get (edges_from o) j) same_place ∙ ap (λ y. slice_get (edges_from y) i) (same_Some o m g) ∙ t)
edge_place (q ∷ ps) (o ∷ ms) e (suc n) i first k p m x h f g s t =
    let after = first_from ps (e + way_count q) n first f in
    let long : length (edges_from o) ≡ way_count q = length-map o.node.ways _ ∙ sym (ap (head_or 0) h) in
    let later_at : first + i ≡ e + way_count q + (k - way_count q) = omega arith in
    let back : way_count q + (k - way_count q) ≡ k = omega arith in
    slice_get-right (edges_from o) (flat_map edges_from ms) (way_count q) (k - way_count q) k long back
    ∙ edge_place ps ms (e + way_count q) n i first (k - way_count q) p m x (ap rest_of h) f g later_at t
