-- An edge of a valid program leads on, and so is found at its point by its exit.
use Rattle.std.proofs.Common.{◌≡◌, ℕ, suc, ◌+◌, ◌<◌, List, [], ◌∷◌, length, Option, Some, None, option_map, refl, sym, ap, ◌∙◌, subst, ◌⊎◌, inl, inr, arith}
use Rattle.std.specs.Prelude.{slice_get, IfSome, MatchOption}
use Rattle.std.specs.Option.{option_and_then}
use Rattle.std.specs.List.{flat_map}
use Rattle.std.proofs.lemmas.Option.{slice_get-map, same_Some}
use Rattle.csub_semantics.specs.Points.{PointTree, ExitTree}
use Rattle.csub_semantics.specs.Syntax.{ProgramTree}
use Rattle.csub_semantics.specs.Successors.{Way}
use Rattle.csub_semantics.specs.Flows.{PlacedNode, point_list, Edge, edges_from, edge_list, way_of, flow_of}
use Rattle.csub_semantics.specs.Numbers.{Site, site, edge_at}
use Rattle.csub_validity.specs.Valid.{IsValid}
use Rattle.program_laws.proofs.LawsWays.{ways_differ, found_by_exit}
use Rattle.flow_graph.specs.Graph.{Tables, IsGraphOf, edge_count}
use Rattle.flow_graph.proofs.LawsLists.{slice_get_cases_append, made_of}
use Rattle.flow_graph.proofs.LawsPlaces.{point_placed, found, edges_counted}
use Rattle.dual_walk.specs.declared.fact.Fact.{Fact}
use Rattle.dual_walk.specs.Books.{IsNamed, LeavesFrom}
use Rattle.dual_walk.proofs.LawsLists.{get_some}
use Rattle.edge_images.specs.Partly.{IsImageBy}

abbrev edge_by : PlacedNode → Way PointTree → Edge
edge_by m w = record { function = m.function; from = m.node.point; exit = w.exit }

-- where an edge of a list of points stands
record StandsAt (ms : List PlacedNode) (d : Edge) : Type 0 where
  place : ℕ
  point : PlacedNode
  there : slice_get ms place ≡ Some point
  index : ℕ
  way : Way PointTree
  among : slice_get point.node.ways index ≡ Some way
  is : edge_by point way ≡ d

stands_at : (ms : List PlacedNode) (k : ℕ) (d : Edge) → slice_get (flat_map edges_from ms) k ≡ Some d → StandsAt ms d
stands_at [] k d e = absurd (let f : ⊥ = cc in f)
stands_at (m ∷ ms) k d e = step (slice_get_cases_append (edges_from m) (flat_map edges_from ms) k d e) (λ j f. stands_at ms j d f)
  where
    step : (slice_get (edges_from m) k ≡ Some d) ⊎ ((l : ℕ) × (k ≡ length (edges_from m) + l) × (slice_get (flat_map edges_from ms) l ≡ Some d))
        → ((j : ℕ) → slice_get (flat_map edges_from ms) j ≡ Some d → StandsAt ms d) → StandsAt (m ∷ ms) d
    step (inl h) later =
        let made = made_of (edge_by m) (slice_get m.node.ways k) d (sym (slice_get-map (edge_by m) m.node.ways k) ∙ h) in
        record { place = 0; point = m; there = refl; index = k; way = made.value; among = made.is; is = made.gives }
    step (inr h) later =
        let l = later h.0 h.2 in
        record { place = suc l.place; point = l.point; there = l.there; index = l.index; way = l.way; among = l.among; is = l.is }

edge_leads : (P : ProgramTree) → IsValid P → (k : ℕ) (d : Edge) → edge_at P k ≡ Some d → (q : PointTree) × ((flow_of P).succ d.function d.from d.exit ≡ Some q)
edge_leads P valid k d e =
    let s = stands_at (point_list P) k d e in
    let a = s.point in
    let is = point_placed P.functions s.place a s.there in
    let differ = ways_differ P valid is.place is.function is.there is.index a.node is.node in
    let way = found_by_exit a.node.ways differ s.index s.way s.among in
    let there = found P.functions s.place a valid.distinct s.there in
    let leads : (flow_of P).succ a.function a.node.point s.way.exit ≡ Some s.way.to =
    ap (λ o. option_map (λ (w : Way PointTree). w.to) (way_of o s.way.exit)) there ∙ ap (option_map (λ (w : Way PointTree). w.to)) way in
    (s.way.to, subst (λ (x : Edge). (flow_of P).succ x.function x.from x.exit ≡ Some s.way.to) s.is leads)

-- what a graph answers at a fact's new point
module _ (P P' : ProgramTree) (g' : Tables) (ok' : IsGraphOf g' P') (c : Fact) (e : ℕ) (named : IsNamed P P' c) (leaves : LeavesFrom P e c.old) (x : ExitTree) (same : x ≡ leaves.edge.exit) where
  abbrev along : PointTree → Edge
  along q = record { function = named.name; from = named.other; exit = x }

  abbrev follows : Option PointTree
  follows = (flow_of P').succ named.name named.other x

  one_name : named.name ≡ leaves.edge.function
  one_name = ap (λ (s : Site). s.function) (same_Some _ _ (sym named.old ∙ leaves.from))

  some_image : (i : ℕ) → i < edge_count g' → edge_at P' i ≡ option_map along follows → IsImageBy P P' c e i
  some_image i within number =
      let there = get_some (edge_list P') i (omega (arith, within, edges_counted g' P' ok')) in
      let made = made_of along follows there.0 (sym number ∙ there.1) in
      record {
        old = leaves.edge;
        new = there.0;
        numbered = leaves.numbered;
        numbered' = there.1;
        function = sym one_name ∙ ap (λ (d : Edge). d.function) made.gives;
        exit = sym same ∙ ap (λ (d : Edge). d.exit) made.gives;
        from = leaves.from;
        from' = named.new ∙ ap (λ (d : Edge). Some (site d.function d.from)) made.gives;
      }

  no_image : None ≡ option_map along follows → (i : ℕ) → IsImageBy P P' c e i → ⊥
  no_image none i b =
      let old : b.old ≡ leaves.edge = same_Some b.old leaves.edge (sym b.numbered ∙ leaves.numbered) in
      let at : site b.new.function b.new.from ≡ site named.name named.other = same_Some _ _ (sym b.from' ∙ named.new) in
      let way : b.new.exit ≡ x = sym b.exit ∙ ap (λ (d : Edge). d.exit) old ∙ sym same in
      let led = edge_leads P' ok'.valid i b.new b.numbered' in
      let leads : follows ≡ Some led.0 = (λ k. (flow_of P').succ (sym at k).function (sym at k).point (sym way k)) ∙ led.1 in
      let both : None ≡ Some (along led.0) = none ∙ ap (option_map along) leads in
      cc

  pub image_found : (o : Option ℕ) → IfSome o (λ i. i < edge_count g') → option_and_then (edge_at P') o ≡ option_map along follows → MatchOption o ((i : ℕ) → IsImageBy P P' c e i → ⊥) (IsImageBy P P' c e)
  image_found None within number = no_image number
  image_found (Some i) within number = some_image i within number
