use Rattle.std.proofs.Common.{◌≡◌, ◌<◌, ◌≤◌, ◌+◌, ◌-◌, ℕ}
use Rattle.csub_semantics.specs.Syntax.{ProgramTree}
use Rattle.flow_graph.specs.Graph.{IsGraphOf, edge_count, way_count_at}
use Rattle.dual_walk.specs.Books.{LeavesFrom}
use Rattle.dual_walk.specs.Moments.{IsMoment, HoldsNext}
use Rattle.dual_walk.specs.Held.{Extends}
use Rattle.dual_walk.proofs.follow.take_steps.Given as goal

abbrev pub invariant-loop-edge : goal.invariant-loop-edge
invariant-loop-edge g l = record {
  can : (goal.iterator-loop-edge g).can_next l.edge-iterator;
  finite : (goal.iterator-loop-edge g).is_finite l.edge-iterator;
  moment : IsMoment l.both.old.now l.both.new.now l.pairs;
  upto : l.edge-iterator.start ≤ l.edge-iterator.end;
  within : l.edge-iterator.end ≤ edge_count l.both.old.now;
  cost : l.asked + (l.edge-iterator.end - l.edge-iterator.start) ≤ l.fn.asked + way_count_at l.both.old.now l.from.old;
  counted : l.steps + l.fn.asked ≡ l.fn.steps + l.asked;
  grows : Extends l.fn.pairs.facts.items l.pairs.facts.items;
  own : (P : ProgramTree) → IsGraphOf l.both.old.now P → (e : ℕ) → l.edge-iterator.start ≤ e → e < l.edge-iterator.end → LeavesFrom P e l.from.old;
  all : (P : ProgramTree) → IsGraphOf l.both.old.now P → (e : ℕ) → LeavesFrom P e l.from.old → e < l.edge-iterator.end;
  held : (P P' : ProgramTree) → IsGraphOf l.both.old.now P → IsGraphOf l.both.new.now P' → (e : ℕ) → e < l.edge-iterator.start → (s : LeavesFrom P e l.from.old) → HoldsNext P P' l.pairs.facts.items l.from s.edge.exit;
}
