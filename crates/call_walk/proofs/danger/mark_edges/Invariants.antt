use Rattle.std.proofs.Common.{◌≡◌, ◌<◌, ◌≤◌, ℕ, length}
use Rattle.csub_semantics.specs.Syntax.{ProgramTree}
use Rattle.flow_graph.specs.Graph.{IsGraphOf, edge_count}
use Rattle.dual_walk.specs.Books.{LeavesFrom}
use Rattle.dual_walk.specs.Rest.{facts_of}
use Rattle.call_walk.specs.Danger.{Stops, Marks}
use Rattle.call_walk.proofs.danger.mark_edges.Given as goal

abbrev pub invariant-loop-edge : goal.invariant-loop-edge
invariant-loop-edge l = record {
  can : goal.iterator-loop-edge.can_next l.edge-iterator;
  finite : goal.iterator-loop-edge.is_finite l.edge-iterator;
  edges : length l.danger ≡ edge_count l.old;
  within : l.edge-iterator.end ≤ edge_count l.old;
  own : (P : ProgramTree) → IsGraphOf l.old P → (e : ℕ) → l.edge-iterator.start ≤ e → e < l.edge-iterator.end → LeavesFrom P e l.from.old;
  all : (P : ProgramTree) → IsGraphOf l.old P → (e : ℕ) → LeavesFrom P e l.from.old → e < l.edge-iterator.end;
  marks : (P P' : ProgramTree) → IsGraphOf l.old P → IsGraphOf l.new P' → Marks l.fn.danger l.danger (λ e. (e < l.edge-iterator.start) × Stops P P' (facts_of l.walk) l.from e);
}
