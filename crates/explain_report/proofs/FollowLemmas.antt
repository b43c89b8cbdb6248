-- What a graph answers of a way out of a new point: whether a partner follows, and which place is told.
use Rattle.std.proofs.Common.{◌≡◌, ℕ, ◌<◌, Bool, true, false, not, IsTrue, List, Option, Some, None, option_map, sym, ap, ◌∙◌, arith}
use Rattle.std.proofs.lemmas.Bool.{false_from_ne_true, not_from_false, not-true}
use Rattle.csub_objects.specs.Types.{Name}
use Rattle.csub_text.specs.declared.span.Span.{Span}
use Rattle.csub_semantics.specs.Points.{PointTree, ExitTree}
use Rattle.csub_semantics.specs.Syntax.{ProgramTree}
use Rattle.csub_semantics.specs.Flows.{Edge, edge_list, point_list, flow_of}
use Rattle.csub_semantics.specs.Numbers.{Site, site, site_of, site_at, edge_at}
use Rattle.edge_trace.specs.Rows.{has}
use Rattle.flow_graph.specs.Graph.{Tables, IsGraphOf, point_count, edge_count}
use Rattle.flow_graph.proofs.LawsLists.{made_of}
use Rattle.flow_graph.proofs.LawsPlaces.{points_counted, edges_counted, site_one}
use Rattle.source_place.specs.declared.place.Place.{Place}
use Rattle.source_place.specs.Places.{place_of, place_text}
use Rattle.dual_walk.specs.Books.{exit_in}
use Rattle.explain_report.specs.Explanations.{new_place}
use Rattle.explain_report.specs.Dangers.{LeadsToNone}
use Rattle.explain_report.proofs.EdgeLemmas.{IsPlaced, placed}
use Rattle.dual_walk.proofs.LawsLists.{get_some}

-- a number of a graph is that of an edge of its program
pub edge_there : (g : Tables) (P : ProgramTree) → IsGraphOf g P → (e : ℕ) → e < edge_count g → (edge : Edge) × (edge_at P e ≡ Some edge)
edge_there g P ok e l = get_some (edge_list P) e (omega (arith, edges_counted g P ok))

module _ (g : Tables) (P : ProgramTree) (ok : IsGraphOf g P) (f : Name) (p : PointTree) (x : ExitTree) where
  abbrev follows : Option PointTree
  follows = (flow_of P).succ f p x

  -- the point with a number to which a way out leads
  pub record Leads (n : ℕ) : Type 0 where
    pub to : PointTree
    pub leads : follows ≡ Some to
    pub at : site_at P n ≡ Some (site f to)

  pub leads_there : (n : ℕ) → n < point_count g → site_at P n ≡ option_map (site f) follows → Leads n
  leads_there n l e =
      let there = get_some (point_list P) n (omega (arith, points_counted g P ok)) in
      let made = made_of (site f) follows (site_of there.0) (sym e ∙ ap (option_map site_of) there.1) in
      record { to = made.value; leads = made.is; at = e ∙ ap (option_map (site f)) made.is }

  -- a partner follows where the next point is one
  module _ (partners : List Bool) where
    pub parts_some : (n : ℕ) → n < point_count g → site_at P n ≡ option_map (site f) follows
        → (IsTrue (not (has partners n)) → LeadsToNone P partners f p x) × (LeadsToNone P partners f p x → IsTrue (not (has partners n)))
    parts_some n l e = (to, from)
      where
        to : IsTrue (not (has partners n)) → LeadsToNone P partners f p x
        to other = record {
          none = λ q m leads at flagged.
              let same : m ≡ n = site_one P ok.valid m n (site f q) at (e ∙ ap (option_map (site f)) leads) in
              let set : has partners n ≡ true = ap (has partners) (sym same) ∙ flagged in
              let unset = not-true (has partners n) other in
              let clash : true ≡ false = sym set ∙ unset in
              cc;
        }

        from : LeadsToNone P partners f p x → IsTrue (not (has partners n))
        from h =
            let there = leads_there n l e in
            not_from_false (has partners n) (false_from_ne_true (has partners n) (h.none there.to n there.leads there.at))

    pub parts_none : None ≡ option_map (site f) follows → LeadsToNone P partners f p x
    parts_none e = record { none = λ q m leads at flagged. let clash : ◌≡◌ {A = Option Site} None (Some (site f q)) = e ∙ ap (option_map (site f)) leads in cc }

  -- the place of the point that follows, and of none
  module _ (source : List ℕ) where
    pub placed_there : (n : ℕ) (h : Leads n) → IsPlaced P n (site f h.to)
    placed_there n h = placed P n (site f h.to) ok.valid h.at

    pub some_told : (n : ℕ) (h : Leads n) (span : Span) (place : Place) → span ≡ (placed_there n h).point.node.span → place ≡ place_of source span → place_text place ≡ new_place P source f follows
    some_told n h span place a b =
        ap place_text (b ∙ ap (place_of source) (a ∙ (placed_there n h).span)) ∙ sym (ap (new_place P source f) h.leads)

-- the way out of the edge with a number
pub exit_there : (g : Tables) (P : ProgramTree) → IsGraphOf g P → (e : ℕ) (x : ExitTree) → e < edge_count g → ((edge : Edge) → edge_at P e ≡ Some edge → x ≡ edge.exit) → x ≡ exit_in (edge_at P e)
exit_there g P ok e x l is =
    let there = edge_there g P ok e l in
    is there.0 there.1 ∙ sym (ap exit_in there.1)
