use Rattle.std.proofs.Common.{ap}
use Rattle.flow_graph.specs.Graph.{NamedPoint}
use Rattle.flow_graph.proofs.Looked.{read_point, point_is}
use Rattle.flow_graph.proofs.graph.Graph.span_at.Goals as goal

pub returns : goal.returns
returns c =
    let read = read_point c.args.self.now c.self.inside.functions.items c.self.inside.points.items c.args.point c.index.result.now c.self.view_is c.requires c.index.ensures in
    λ P m g h. ap (λ (d : NamedPoint). d.node.span) (point_is P c.args.self.now g c.args.point c.index.result.now m read h)
