use Rattle.flow_graph.proofs.Looked.{read_function, name_looked}
use Rattle.flow_graph.proofs.graph.Graph.name_of.Goals as goal

pub returns : goal.returns
returns c =
    let read = read_function c.args.self.now c.self.inside.functions.items c.self.inside.points.items c.args.function c.index.result.now c.self.view_is c.requires c.index.ensures in
    λ P g. name_looked P c.args.self.now g c.args.function c.index.result.now read
