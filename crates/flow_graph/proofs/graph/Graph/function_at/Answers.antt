use Rattle.flow_graph.proofs.Looked.{read_point, function_looked}
use Rattle.flow_graph.proofs.graph.Graph.function_at.Goals as goal

pub returns-clause-function : goal.returns-clause-function
returns-clause-function c =
    let read = read_point c.args.self.now c.self.inside.functions.items c.self.inside.points.items c.args.point c.index.result.now c.self.view_is c.requires c.index.ensures in
    λ P s g h. function_looked P c.args.self.now g c.args.point c.index.result.now s read h
