use Rattle.std.proofs.Common.{◌≡◌, ℕ, length, IsTrue, ◌↔◌}
use Rattle.csub_semantics.specs.Syntax.{ProgramTree}
use Rattle.edge_trace.specs.Rows.{has}
use Rattle.flow_graph.specs.Graph.{IsGraphOf, edge_count}
use Rattle.dual_walk.specs.Rest.{facts_of}
use Rattle.call_walk.specs.Danger.{IsStoppedBefore}
use Rattle.call_walk.proofs.danger.dangerous.Given as goal

abbrev pub invariant-loop-from : goal.invariant-loop-from
invariant-loop-from l = record {
  edges : length l.danger ≡ edge_count l.both.old.now;
  marked : (P P' : ProgramTree) → IsGraphOf l.both.old.now P → IsGraphOf l.both.new.now P' → (e : ℕ) → IsTrue (has l.danger e) ↔ IsStoppedBefore P P' (facts_of l.walk) l.from-index e;
}
