use Rattle.std.proofs.Common.{subst}
use Rattle.flow_graph.specs.Graph.{HasProgram}
use Rattle.flow_graph.proofs.graph.Graph.points.Goals as goal

pub returns-clause-valid : goal.returns-clause-valid
returns-clause-valid c = subst HasProgram c.self.view_is c.self.invariant.4
