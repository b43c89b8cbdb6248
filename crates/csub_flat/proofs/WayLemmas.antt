-- What a graph's answers say of where ways out lead.
use Rattle.std.proofs.Common.{◌≡◌, ◌<◌, ◌∙◌, ℕ, length, Option, Some, None, refl, sym, ap, subst}
use Rattle.std.specs.Option.{option_map, option_and_then, IfNone, IfSome}
use Rattle.csub_objects.specs.Types.{Name}
use Rattle.csub_semantics.specs.Syntax.{ProgramTree}
use Rattle.csub_semantics.specs.Points.{PointTree, ExitTree}
use Rattle.csub_semantics.specs.Flows.{point_list, edge_list, flow_of}
use Rattle.csub_semantics.specs.Numbers.{Site, site, site_at, edge_at}
use Rattle.flow_graph.specs.Graph.{Tables, IsGraphOf, point_count, edge_count}
use Rattle.flow_graph.specs.declared.graph.WayOut.{WayOut}
use Rattle.flow_graph.proofs.LawsPlaces.{points_counted, edges_counted}
use Rattle.csub_flat.specs.Sites.{place_of}
use Rattle.csub_flat.specs.Ways.{LeadsTo, LeadsNowhere}
use Rattle.csub_flat.proofs.LawsSites.{place_is}

no_way : (f : Name) (o : Option PointTree) → ◌≡◌ {A = Option Site} None (option_map (site f) o) → o ≡ None
no_way f None e = refl
no_way f (Some q) e = cc

pub leads_nowhere : (P : ProgramTree) (n : ℕ) (x : ExitTree) → ◌≡◌ {A = Option Site} None (option_map (site (place_of P n).function) ((flow_of P).succ (place_of P n).function (place_of P n).point x)) → LeadsNowhere P n x
leads_nowhere P n x e = no_way (place_of P n).function ((flow_of P).succ (place_of P n).function (place_of P n).point x) e

pub leads_to : (P : ProgramTree) (n : ℕ) (way : WayOut) (x : ExitTree) → way.to < length (point_list P) → way.edge < length (edge_list P)
    → site_at P way.to ≡ option_map (site (place_of P n).function) ((flow_of P).succ (place_of P n).function (place_of P n).point x)
    → edge_at P way.edge ≡ option_map (λ q. record { function = (place_of P n).function; from = (place_of P n).point; exit = x }) ((flow_of P).succ (place_of P n).function (place_of P n).point x)
    → LeadsTo P n x way
leads_to P n way x h l e g = step ((flow_of P).succ (place_of P n).function (place_of P n).point x) refl e g
  where
    step : (o : Option PointTree) → (flow_of P).succ (place_of P n).function (place_of P n).point x ≡ o
        → site_at P way.to ≡ option_map (site (place_of P n).function) o
        → edge_at P way.edge ≡ option_map (λ q. record { function = (place_of P n).function; from = (place_of P n).point; exit = x }) o
        → LeadsTo P n x way
    step None s e g = absurd (let k = sym (place_is P way.to h) ∙ e in let f : ⊥ = cc in f)
    step (Some q) s e g =
        let k = sym (place_is P way.to h) ∙ e in
        let here : place_of P way.to ≡ site (place_of P n).function q = cc in
        record {
          point = h;
          edge = l;
          function = ap (λ (s : Site). s.function) here;
          leads = s ∙ ap (λ (s : Site). Some s.point) (sym here);
          crosses = g;
        }

-- the answer of a graph on the way out along x, in these words
pub way_is : (g : Tables) (P : ProgramTree) → IsGraphOf g P → (n : ℕ) (x : ExitTree) (o : Option WayOut)
    → option_and_then (site_at P) (option_map (λ (way : WayOut). way.to) o) ≡ option_map (site (place_of P n).function) ((flow_of P).succ (place_of P n).function (place_of P n).point x)
    → option_and_then (edge_at P) (option_map (λ (way : WayOut). way.edge) o) ≡ option_map (λ q. record { function = (place_of P n).function; from = (place_of P n).point; exit = x }) ((flow_of P).succ (place_of P n).function (place_of P n).point x)
    → IfSome o (λ way. way.to < point_count g) → IfSome o (λ way. way.edge < edge_count g) → IfSome o (LeadsTo P n x)
way_is g P graph n x None leads number to edge = tt
way_is g P graph n x (Some way) leads number to edge = leads_to P n way x (subst (λ k. way.to < k) (points_counted g P graph) to) (subst (λ k. way.edge < k) (edges_counted g P graph) edge) leads number

pub way_is_not : (P : ProgramTree) (n : ℕ) (x : ExitTree) (o : Option WayOut)
    → option_and_then (site_at P) (option_map (λ (way : WayOut). way.to) o) ≡ option_map (site (place_of P n).function) ((flow_of P).succ (place_of P n).function (place_of P n).point x)
    → IfNone o (LeadsNowhere P n x)
way_is_not P n x None leads = leads_nowhere P n x leads
way_is_not P n x (Some way) leads = tt
