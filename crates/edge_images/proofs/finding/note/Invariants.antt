use Rattle.std.proofs.Common.{◌≡◌, ◌<◌, ◌≤◌, ℕ, List, length, Some}
use Rattle.std.specs.Prelude.{slice_get}
use Rattle.csub_semantics.specs.Syntax.{ProgramTree}
use Rattle.flow_graph.specs.Graph.{IsGraphOf, edge_count}
use Rattle.dual_walk.specs.declared.fact.Fact.{Fact}
use Rattle.dual_walk.specs.Books.{LeavesFrom}
use Rattle.edge_images.specs.Partly.{IsImageBefore, IsImageUpto, Answers}
use Rattle.edge_images.proofs.finding.note.Given as goal

abbrev pub invariant-loop-edge : goal.invariant-loop-edge
invariant-loop-edge l = record {
  can : goal.iterator-loop-edge.can_next l.edge-iterator;
  finite : goal.iterator-loop-edge.is_finite l.edge-iterator;
  edges : length l.images.items ≡ edge_count l.old;
  within : l.edge-iterator.end ≤ edge_count l.old;
  own : (P : ProgramTree) → IsGraphOf l.old P → (e : ℕ) → l.edge-iterator.start ≤ e → e < l.edge-iterator.end → LeavesFrom P e l.from.old;
  all : (P : ProgramTree) → IsGraphOf l.old P → (e : ℕ) → LeavesFrom P e l.from.old → e < l.edge-iterator.end;
  noted : (P P' : ProgramTree) (facts : List Fact) (n : ℕ) → IsGraphOf l.old P → IsGraphOf l.new P' → slice_get facts n ≡ Some l.from
      → Answers l.fn.images.items (IsImageBefore P P' facts n) → Answers l.images.items (IsImageUpto P P' facts n l.from l.edge-iterator.start);
}
