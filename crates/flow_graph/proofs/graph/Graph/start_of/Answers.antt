use Rattle.flow_graph.proofs.Looked.{read_function, start_looked}
use Rattle.flow_graph.proofs.graph.Graph.start_of.Goals as goal

pub returns-clause-start : goal.returns-clause-start
returns-clause-start c =
    let read = read_function c.args.self.now c.self.inside.functions.items c.self.inside.points.items c.args.function c.index.result.now c.self.view_is c.requires c.index.ensures in
    λ P f g h. start_looked P c.args.self.now g c.args.function c.index.result.now f read h
