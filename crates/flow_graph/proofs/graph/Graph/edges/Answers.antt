use Rattle.std.proofs.Common.{◌≡◌, ◌∙◌, ap, rules, arith, length}
use Rattle.flow_graph.specs.Graph.{edge_count}
use Rattle.flow_graph.proofs.EdgePlaces.{sources-length}
use Rattle.flow_graph.proofs.Whole.{edges_listed}
use Rattle.flow_graph.proofs.graph.Graph.edges.Goals as goal

pub overflow_cast-result : goal.overflow_cast-result
overflow_cast-result c =
    let counted : c.len.result ≡ length c.self.inside.sources.items = search rules in
    let sources = ap length c.self.invariant.2 ∙ sources-length c.self.inside.points.items 0 in
    let few = c.self.invariant.0.few_edges in
    omega arith

pub returns-clause-value : goal.returns-clause-value
returns-clause-value c =
    let counted : c.len.result ≡ length c.self.inside.sources.items = search rules in
    counted ∙ ap length c.self.invariant.2 ∙ sources-length c.self.inside.points.items 0 ∙ ap edge_count c.self.view_is

pub returns-clause-listed : goal.returns-clause-listed
returns-clause-listed c =
    let counted : c.len.result ≡ length c.self.inside.sources.items = search rules in
    λ P g. counted ∙ ap length c.self.invariant.2 ∙ sources-length c.self.inside.points.items 0 ∙ ap edge_count c.self.view_is ∙ edges_listed P c.args.self.now.1 g.points
