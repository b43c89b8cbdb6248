use Rattle.std.proofs.Common.{◌≡◌, ◌≤◌, ◌+◌, ◌-◌, ◌^◌, length}
use Rattle.csub_semantics.specs.Points.{entry}
use Rattle.csub_semantics.specs.Flows.{start_name}
use Rattle.csub_semantics.specs.Syntax.{ProgramTree}
use Rattle.flow_graph.specs.Graph.{IsGraphOf}
use Rattle.dual_walk.specs.Held.{IsHeld}
use Rattle.dual_walk.specs.Rest.{facts_of, asked_of, IsAtRest}
use Rattle.call_walk.specs.Danger.{AreEntered}
use Rattle.call_walk.proofs.walking.reach.Given as goal

abbrev pub invariant-loop-at : goal.invariant-loop-at
invariant-loop-at g l = record {
  rests : IsAtRest l.both.old.now l.both.new.now l.walk;
  starts : (P P' : ProgramTree) → IsGraphOf l.both.old.now P → IsGraphOf l.both.new.now P' → IsHeld P P' (facts_of l.walk) start_name entry entry;
  entered : (P P' : ProgramTree) → IsGraphOf l.both.old.now P → IsGraphOf l.both.new.now P' → AreEntered P P' (facts_of l.walk) l.at;
  upto : l.at ≤ length (facts_of l.walk);
  counted : l.steps + asked_of l.fn.walk ≡ l.fn.steps + asked_of l.walk;
}

abbrev pub decreases-loop-at : goal.decreases-loop-at
decreases-loop-at g l = 2 ^ 32 - l.at
