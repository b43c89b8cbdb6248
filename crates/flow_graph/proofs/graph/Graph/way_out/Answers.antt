use Rattle.std.proofs.Common.{◌≡◌, ◌∙◌, ◌<◌, ◌+◌, ap, sym, subst, refl, None, Some, get_or, length, rules, arith}
use Rattle.std.specs.Vec.{vec_len}
use Rattle.std.specs.List.{slice_get, find}
use Rattle.std.specs.Option.{option_and_then, option_map}
use Rattle.std.proofs.lemmas.Option.{slice_get-get_or}
use Rattle.csub_semantics.specs.Points.{exit_tree, exit_eq}
use Rattle.csub_semantics.specs.Flows.{flow_of, Edge}
use Rattle.csub_semantics.specs.Numbers.{site, site_at, edge_at}
use Rattle.flow_graph.specs.declared.graph.WayOut.{WayOut}
use Rattle.flow_graph.specs.Graph.{point_count, edge_count, way_count}
use Rattle.flow_graph.proofs.EdgePlaces.{firsts-length}
use Rattle.flow_graph.proofs.Looked.{read_point, read_first, first_within, follow_looked, number_looked, some_at, none_made}
use Rattle.flow_graph.proofs.graph.Graph.way_out.Goals as goal

pub index-requires-2 : goal.index-requires-2
index-requires-2 c =
    let counted : vec_len c.self.inside.firsts ≡ length c.self.inside.firsts.items = search rules in
    let long = ap length c.self.invariant.1 ∙ firsts-length c.self.inside.points.items 0 ∙ ap point_count c.self.view_is in
    let below = c.requires in
    omega arith

pub overflow_add-result : goal.overflow_add-result
overflow_add-result c =
    let read = read_point c.args.self.now c.self.inside.functions.items c.self.inside.points.items c.args.point c.index.result.now c.self.view_is c.requires c.index.ensures in
    let first = read_first c.args.self.now c.self.inside.functions.items c.self.inside.points.items c.self.inside.firsts.items c.args.point c.index-2.result.now c.self.view_is c.self.invariant.1 c.requires c.index-2.ensures in
    let room = first_within c.args.self.now.1 0 c.args.point c.index-2.result.now c.index.result.now first read in
    let within : c.in_ok-way.way < way_count c.index.result.now = subst (λ l. c.in_ok-way.way < length l) c.as_slice-ways.ensures.value c.in_ok-way.ensures.within in
    let few = c.self.invariant.0.few_edges in
    let same = ap edge_count c.self.view_is in
    omega arith

pub returns-clause-leads : goal.returns-clause-leads
returns-clause-leads c =
    let read = read_point c.args.self.now c.self.inside.functions.items c.self.inside.points.items c.args.point c.index.result.now c.self.view_is c.requires c.index.ensures in
    let there = sym (slice_get-get_or c.as_slice-ways.result.now c.in_ok-way.way c.index-ways-way.result c.in_ok-way.ensures.within) in
    let found = there ∙ c.in_ok-way.ensures.found ∙ ap (find (λ w. exit_eq (exit_tree w.exit) (exit_tree c.args.exit.now))) c.as_slice-ways.ensures.value in
    λ P s g h. follow_looked P c.args.self.now g c.args.point c.index.result.now s (Some (get_or c.as_slice-ways.result.now c.in_ok-way.way c.index-ways-way.result)) (exit_tree c.args.exit.now) read found h

pub returns-clause-number : goal.returns-clause-number
returns-clause-number c =
    let read = read_point c.args.self.now c.self.inside.functions.items c.self.inside.points.items c.args.point c.index.result.now c.self.view_is c.requires c.index.ensures in
    let first = read_first c.args.self.now c.self.inside.functions.items c.self.inside.points.items c.self.inside.firsts.items c.args.point c.index-2.result.now c.self.view_is c.self.invariant.1 c.requires c.index-2.ensures in
    let within : c.in_ok-way.way < way_count c.index.result.now = subst (λ l. c.in_ok-way.way < length l) c.as_slice-ways.ensures.value c.in_ok-way.ensures.within in
    let there = some_at c.index.result.now.node.ways.items c.in_ok-way.way within in
    let found =
    sym (ap (λ l. slice_get l c.in_ok-way.way) c.as_slice-ways.ensures.value) ∙ c.in_ok-way.ensures.found ∙ ap (find (λ w. exit_eq (exit_tree w.exit) (exit_tree c.args.exit.now))) c.as_slice-ways.ensures.value in
    λ P s g h. number_looked P c.args.self.now g c.args.point c.in_ok-way.way c.index-2.result.now (c.index-2.result.now + c.in_ok-way.way) c.index.result.now there.0 s (exit_tree c.args.exit.now) read first there.1 found refl h

pub returns-clause-edge_within : goal.returns-clause-edge_within
returns-clause-edge_within c =
    let read = read_point c.args.self.now c.self.inside.functions.items c.self.inside.points.items c.args.point c.index.result.now c.self.view_is c.requires c.index.ensures in
    let first = read_first c.args.self.now c.self.inside.functions.items c.self.inside.points.items c.self.inside.firsts.items c.args.point c.index-2.result.now c.self.view_is c.self.invariant.1 c.requires c.index-2.ensures in
    let room = first_within c.args.self.now.1 0 c.args.point c.index-2.result.now c.index.result.now first read in
    let within : c.in_ok-way.way < way_count c.index.result.now = subst (λ l. c.in_ok-way.way < length l) c.as_slice-ways.ensures.value c.in_ok-way.ensures.within in
    omega arith

pub returns-in_err-way-clause-leads : goal.returns-in_err-way-clause-leads
returns-in_err-way-clause-leads c =
    let read = read_point c.args.self.now c.self.inside.functions.items c.self.inside.points.items c.args.point c.index.result.now c.self.view_is c.requires c.index.ensures in
    let found = c.in_err-way.ensures.found ∙ ap (find (λ w. exit_eq (exit_tree w.exit) (exit_tree c.args.exit.now))) c.as_slice-ways.ensures.value in
    λ P s g h. ap (λ o. option_and_then (site_at P) (option_map (λ (w : WayOut). w.to) o)) c.from_residual.ensures
    ∙ follow_looked P c.args.self.now g c.args.point c.index.result.now s None (exit_tree c.args.exit.now) read found h

pub returns-in_err-way-clause-number : goal.returns-in_err-way-clause-number
returns-in_err-way-clause-number c =
    let read = read_point c.args.self.now c.self.inside.functions.items c.self.inside.points.items c.args.point c.index.result.now c.self.view_is c.requires c.index.ensures in
    let x = exit_tree c.args.exit.now in
    let found = c.in_err-way.ensures.found ∙ ap (find (λ w. exit_eq (exit_tree w.exit) x)) c.as_slice-ways.ensures.value in
    λ P s g h. ap (λ o. option_and_then (edge_at P) (option_map (λ (w : WayOut). w.edge) o)) c.from_residual.ensures
    ∙ none_made (site s.function) (λ q. let e : Edge = record { function = s.function; from = s.point; exit = x } in e) ((flow_of P).succ s.function s.point x) (follow_looked P c.args.self.now g c.args.point c.index.result.now s None x read found h)
