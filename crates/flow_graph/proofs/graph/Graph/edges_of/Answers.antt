use Rattle.std.proofs.Common.{◌≡◌, ◌∙◌, ap, length, rules, arith}
use Rattle.std.specs.Vec.{vec_len}
use Rattle.flow_graph.specs.Graph.{point_count, edge_count, way_count}
use Rattle.flow_graph.proofs.EdgePlaces.{firsts-length}
use Rattle.flow_graph.proofs.Looked.{read_point, read_first, first_within, among_leaves, leaves_among}
use Rattle.flow_graph.proofs.graph.Graph.edges_of.Goals as goal

pub index-start-requires : goal.index-start-requires
index-start-requires c =
    let counted : vec_len c.self.inside.firsts ≡ length c.self.inside.firsts.items = search rules in
    let long = ap length c.self.invariant.1 ∙ firsts-length c.self.inside.points.items 0 ∙ ap point_count c.self.view_is in
    let below = c.requires in
    omega arith

pub overflow_add-result : goal.overflow_add-result
overflow_add-result c =
    let read = read_point c.args.self.now c.self.inside.functions.items c.self.inside.points.items c.args.point c.index.result.now c.self.view_is c.requires c.index.ensures in
    let first = read_first c.args.self.now c.self.inside.functions.items c.self.inside.points.items c.self.inside.firsts.items c.args.point c.index-start.result.now c.self.view_is c.self.invariant.1 c.requires c.index-start.ensures in
    let room = first_within c.args.self.now.1 0 c.args.point c.index-start.result.now c.index.result.now first read in
    let counted : c.len-count.result ≡ way_count c.index.result.now = search rules in
    let few = c.self.invariant.0.few_edges in
    let same = ap edge_count c.self.view_is in
    omega arith

pub returns-clause-edges : goal.returns-clause-edges
returns-clause-edges c P s e ok at =
    let t = c.args.self.now in
    let read = read_point t c.self.inside.functions.items c.self.inside.points.items c.args.point c.index.result.now c.self.view_is c.requires c.index.ensures in
    let first = read_first t c.self.inside.functions.items c.self.inside.points.items c.self.inside.firsts.items c.args.point c.index-start.result.now c.self.view_is c.self.invariant.1 c.requires c.index-start.ensures in
    let counted : c.len-count.result ≡ way_count c.index.result.now = search rules in (
      λ h. let upto = h.1 in among_leaves P t ok c.args.point c.index-start.result.now e c.index.result.now s read first at h.0 (omega arith),
      λ h.
          let own = leaves_among P t ok c.args.point c.index-start.result.now e c.index.result.now s read first at h in
          let within = own.within in
          let not_before = own.not_before in
          (own.not_before, omega arith),
    )

pub returns-clause-within : goal.returns-clause-within
returns-clause-within c =
    let read = read_point c.args.self.now c.self.inside.functions.items c.self.inside.points.items c.args.point c.index.result.now c.self.view_is c.requires c.index.ensures in
    let first = read_first c.args.self.now c.self.inside.functions.items c.self.inside.points.items c.self.inside.firsts.items c.args.point c.index-start.result.now c.self.view_is c.self.invariant.1 c.requires c.index-start.ensures in
    let room = first_within c.args.self.now.1 0 c.args.point c.index-start.result.now c.index.result.now first read in
    let counted : c.len-count.result ≡ way_count c.index.result.now = search rules in
    (omega arith, omega arith)
