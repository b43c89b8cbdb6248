use Rattle.std.proofs.Common.{◌≡◌, ◌∙◌, ◌<◌, ◌+◌, ◌-◌, ap, sym, subst, length, rules, arith, All}
use Rattle.std.specs.Vec.{vec_len}
use Rattle.std.proofs.lemmas.Option.{slice_get_within}
use Rattle.std.proofs.lemmas.List.Elements.{All-get_or}
use Rattle.flow_graph.specs.Graph.{point_count, edge_count}
use Rattle.flow_graph.proofs.EdgePlaces.{firsts-length, sources-length}
use Rattle.flow_graph.proofs.Looked.{at_read, read_point, read_first, edge_read, edge_within, edge_looked}
use Rattle.flow_graph.proofs.graph.Graph.edge_at.Goals as goal

pub index-from-requires : goal.index-from-requires
index-from-requires c =
    let counted : vec_len c.self.inside.sources ≡ length c.self.inside.sources.items = search rules in
    let long = ap length c.self.invariant.2 ∙ sources-length c.self.inside.points.items 0 ∙ ap edge_count c.self.view_is in
    let below = c.requires in
    omega arith

pub index-requires : goal.index-requires
index-requires c =
    let at_edge = edge_read c.args.self.now c.self.inside.functions.items c.self.inside.points.items c.self.inside.sources.items c.args.edge c.index-from.result.now c.self.view_is c.self.invariant.2 c.requires c.index-from.ensures in
    let within = slice_get_within c.args.self.now.1 c.index-from.result.now at_edge.point at_edge.is_point in
    let counted : vec_len c.self.inside.points ≡ length c.self.inside.points.items = search rules in
    let same = ap point_count c.self.view_is in
    omega arith

pub index-requires-2 : goal.index-requires-2
index-requires-2 c =
    let at_edge = edge_read c.args.self.now c.self.inside.functions.items c.self.inside.points.items c.self.inside.sources.items c.args.edge c.index-from.result.now c.self.view_is c.self.invariant.2 c.requires c.index-from.ensures in
    let within = slice_get_within c.args.self.now.1 c.index-from.result.now at_edge.point at_edge.is_point in
    let counted : vec_len c.self.inside.firsts ≡ length c.self.inside.firsts.items = search rules in
    let long = ap length c.self.invariant.1 ∙ firsts-length c.self.inside.points.items 0 ∙ ap point_count c.self.view_is in
    omega arith

pub overflow_sub-edge : goal.overflow_sub-edge
overflow_sub-edge c =
    let t = c.args.self.now in
    let from = c.index-from.result.now in
    let at_edge = edge_read t c.self.inside.functions.items c.self.inside.points.items c.self.inside.sources.items c.args.edge from c.self.view_is c.self.invariant.2 c.requires c.index-from.ensures in
    let within = slice_get_within t.1 from at_edge.point at_edge.is_point in
    let read = read_point t c.self.inside.functions.items c.self.inside.points.items from c.index.result.now c.self.view_is within c.index.ensures in
    let first = read_first t c.self.inside.functions.items c.self.inside.points.items c.self.inside.firsts.items from c.index-2.result.now c.self.view_is c.self.invariant.1 within c.index-2.ensures in
    (edge_within t c.args.edge from c.index-2.result.now c.index.result.now at_edge read first).not_before

pub index-way-requires : goal.index-way-requires
index-way-requires c =
    let t = c.args.self.now in
    let from = c.index-from.result.now in
    let at_edge = edge_read t c.self.inside.functions.items c.self.inside.points.items c.self.inside.sources.items c.args.edge from c.self.view_is c.self.invariant.2 c.requires c.index-from.ensures in
    let within = slice_get_within t.1 from at_edge.point at_edge.is_point in
    let read = read_point t c.self.inside.functions.items c.self.inside.points.items from c.index.result.now c.self.view_is within c.index.ensures in
    let first = read_first t c.self.inside.functions.items c.self.inside.points.items c.self.inside.firsts.items from c.index-2.result.now c.self.view_is c.self.invariant.1 within c.index-2.ensures in
    let way = (edge_within t c.args.edge from c.index-2.result.now c.index.result.now at_edge read first).within in
    let counted : vec_len c.index.result.now.node.ways ≡ length c.index.result.now.node.ways.items = search rules in
    omega arith

pub returns-clause-from : goal.returns-clause-from
returns-clause-from c =
    let t = c.args.self.now in
    let from = c.index-from.result.now in
    let at_edge = edge_read t c.self.inside.functions.items c.self.inside.points.items c.self.inside.sources.items c.args.edge from c.self.view_is c.self.invariant.2 c.requires c.index-from.ensures in
    let within = slice_get_within t.1 from at_edge.point at_edge.is_point in
    let read = read_point t c.self.inside.functions.items c.self.inside.points.items from c.index.result.now c.self.view_is within c.index.ensures in
    let first = read_first t c.self.inside.functions.items c.self.inside.points.items c.self.inside.firsts.items from c.index-2.result.now c.self.view_is c.self.invariant.1 within c.index-2.ensures in
    let is = edge_within t c.args.edge from c.index-2.result.now c.index.result.now at_edge read first in
    let way = at_read c.index.result.now.node.ways.items (c.args.edge - c.index-2.result.now) c.index-way.result.now is.within c.index-way.ensures in
    let before = is.not_before in
    let sum : c.index-2.result.now + (c.args.edge - c.index-2.result.now) ≡ c.args.edge = omega arith in
    λ P e g h. (edge_looked P t g from (c.args.edge - c.index-2.result.now) c.index-2.result.now c.args.edge c.index.result.now c.index-way.result.now e read first way sum h).from

pub returns-clause-exit : goal.returns-clause-exit
returns-clause-exit c =
    let t = c.args.self.now in
    let from = c.index-from.result.now in
    let at_edge = edge_read t c.self.inside.functions.items c.self.inside.points.items c.self.inside.sources.items c.args.edge from c.self.view_is c.self.invariant.2 c.requires c.index-from.ensures in
    let within = slice_get_within t.1 from at_edge.point at_edge.is_point in
    let read = read_point t c.self.inside.functions.items c.self.inside.points.items from c.index.result.now c.self.view_is within c.index.ensures in
    let first = read_first t c.self.inside.functions.items c.self.inside.points.items c.self.inside.firsts.items from c.index-2.result.now c.self.view_is c.self.invariant.1 within c.index-2.ensures in
    let is = edge_within t c.args.edge from c.index-2.result.now c.index.result.now at_edge read first in
    let way = at_read c.index.result.now.node.ways.items (c.args.edge - c.index-2.result.now) c.index-way.result.now is.within c.index-way.ensures in
    let before = is.not_before in
    let sum : c.index-2.result.now + (c.args.edge - c.index-2.result.now) ≡ c.args.edge = omega arith in
    λ P e g h. (edge_looked P t g from (c.args.edge - c.index-2.result.now) c.index-2.result.now c.args.edge c.index.result.now c.index-way.result.now e read first way sum h).exit

pub returns-clause-to : goal.returns-clause-to
returns-clause-to c =
    let t = c.args.self.now in
    let from = c.index-from.result.now in
    let at_edge = edge_read t c.self.inside.functions.items c.self.inside.points.items c.self.inside.sources.items c.args.edge from c.self.view_is c.self.invariant.2 c.requires c.index-from.ensures in
    let within = slice_get_within t.1 from at_edge.point at_edge.is_point in
    let read = read_point t c.self.inside.functions.items c.self.inside.points.items from c.index.result.now c.self.view_is within c.index.ensures in
    let first = read_first t c.self.inside.functions.items c.self.inside.points.items c.self.inside.firsts.items from c.index-2.result.now c.self.view_is c.self.invariant.1 within c.index-2.ensures in
    let is = edge_within t c.args.edge from c.index-2.result.now c.index.result.now at_edge read first in
    let way = at_read c.index.result.now.node.ways.items (c.args.edge - c.index-2.result.now) c.index-way.result.now is.within c.index-way.ensures in
    let before = is.not_before in
    let sum : c.index-2.result.now + (c.args.edge - c.index-2.result.now) ≡ c.args.edge = omega arith in
    λ P e g h. (edge_looked P t g from (c.args.edge - c.index-2.result.now) c.index-2.result.now c.args.edge c.index.result.now c.index-way.result.now e read first way sum h).to

pub returns-clause-from_within : goal.returns-clause-from_within
returns-clause-from_within c =
    let at_edge = edge_read c.args.self.now c.self.inside.functions.items c.self.inside.points.items c.self.inside.sources.items c.args.edge c.index-from.result.now c.self.view_is c.self.invariant.2 c.requires c.index-from.ensures in
    slice_get_within c.args.self.now.1 c.index-from.result.now at_edge.point at_edge.is_point

pub returns-clause-to_within : goal.returns-clause-to_within
returns-clause-to_within c =
    let t = c.args.self.now in
    let ps = c.self.inside.points.items in
    let from = c.index-from.result.now in
    let at_edge = edge_read t c.self.inside.functions.items ps c.self.inside.sources.items c.args.edge from c.self.view_is c.self.invariant.2 c.requires c.index-from.ensures in
    let within = slice_get_within t.1 from at_edge.point at_edge.is_point in
    let read = read_point t c.self.inside.functions.items ps from c.index.result.now c.self.view_is within c.index.ensures in
    let first = read_first t c.self.inside.functions.items ps c.self.inside.firsts.items from c.index-2.result.now c.self.view_is c.self.invariant.1 within c.index-2.ensures in
    let is = edge_within t c.args.edge from c.index-2.result.now c.index.result.now at_edge read first in
    let same = ap point_count c.self.view_is in
    let inside : from < length ps = omega arith in
    let leads = All-get_or (λ p. All (λ w. w.to < length ps) p.node.ways.items) ps from c.index.result.now inside c.self.invariant.0.ways in
    let here = subst (λ p. All (λ w. w.to < length ps) p.node.ways.items) (sym c.index.ensures) leads in
    let led = All-get_or (λ w. w.to < length ps) c.index.result.now.node.ways.items (c.args.edge - c.index-2.result.now) c.index-way.result.now is.within here in
    let below = subst (λ w. w.to < length ps) (sym c.index-way.ensures) led in
    omega arith
