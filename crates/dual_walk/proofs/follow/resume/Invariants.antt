use Rattle.std.proofs.Common.{◌≡◌, ◌<◌, ◌≤◌, ◌+◌, ℕ, length, Some}
use Rattle.std.specs.Prelude.{slice_get}
use Rattle.csub_semantics.specs.Points.{next}
use Rattle.csub_semantics.specs.Syntax.{ProgramTree}
use Rattle.flow_graph.specs.Graph.{IsGraphOf}
use Rattle.dual_walk.specs.declared.fact.Fact.{Fact}
use Rattle.dual_walk.specs.Moments.{IsMoment, HoldsNext}
use Rattle.dual_walk.specs.Held.{Extends}
use Rattle.dual_walk.proofs.follow.resume.Given as goal

abbrev pub invariant-loop-call : goal.invariant-loop-call
invariant-loop-call g l = record {
  moment : IsMoment l.both.old.now l.both.new.now l.pairs;
  upto : l.call-index ≤ length l.call-items;
  cost : l.asked ≤ l.fn.asked + l.call-index;
  counted : l.steps + l.fn.asked ≡ l.fn.steps + l.asked;
  grows : Extends l.fn.pairs.facts.items l.pairs.facts.items;
  held : (P P' : ProgramTree) → IsGraphOf l.both.old.now P → IsGraphOf l.both.new.now P' → (k j : ℕ) (c : Fact) → k < l.call-index → slice_get l.call-items k ≡ Some j → slice_get l.fn.pairs.facts.items j ≡ Some c → HoldsNext P P' l.pairs.facts.items c next;
}
