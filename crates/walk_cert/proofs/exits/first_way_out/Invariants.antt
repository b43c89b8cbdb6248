use Rattle.std.proofs.Common.{◌-◌, ◌<◌, ◌≤◌, ℕ}
use Rattle.csub_semantics.specs.Syntax.{ProgramTree}
use Rattle.flow_graph.specs.Graph.{IsGraphOf, edge_count}
use Rattle.walk_cert.specs.Verdicts.{StaysAt}
use Rattle.walk_cert.proofs.exits.first_way_out.Given as goal

abbrev pub decreases-loop-edge : goal.decreases-loop-edge
decreases-loop-edge l = l.edges.end - l.edge

abbrev pub invariant-loop-edge : goal.invariant-loop-edge
invariant-loop-edge l = record {
  from : l.edges.start ≤ l.edge;
  upto : l.edge ≤ l.edges.end;
  within : l.edges.end ≤ edge_count l.old;
  before : (P P' : ProgramTree) → IsGraphOf l.old P → IsGraphOf l.new P' → (k : ℕ) → l.edges.start ≤ k → k < l.edge → StaysAt P P' l.danger l.pairs l.pair k;
}
