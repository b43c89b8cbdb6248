use Rattle.flow_graph.proofs.Looked.{read_function, exit_looked}
use Rattle.flow_graph.proofs.graph.Graph.exit_of.Goals as goal

pub returns-clause-exit : goal.returns-clause-exit
returns-clause-exit c =
    let read = read_function c.args.self.now c.self.inside.functions.items c.self.inside.points.items c.args.function c.index.result.now c.self.view_is c.requires c.index.ensures in
    λ P f g h. exit_looked P c.args.self.now g c.args.function c.index.result.now f read h
