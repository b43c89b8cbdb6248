use Rattle.std.proofs.Common.{◌≡◌, ◌+◌, ◌-◌, ◌^◌}
use Rattle.dual_walk.specs.Held.{Extends}
use Rattle.dual_walk.specs.Rest.{facts_of, asked_of, IsUnderWay}
use Rattle.dual_walk.proofs.walking.Walk.follow_all.Given as goal

abbrev pub invariant-loop-self : goal.invariant-loop-self
invariant-loop-self g l = record {
  under_way : IsUnderWay l.both.old.now l.both.new.now l.self;
  grows : Extends (facts_of l.fn.self) (facts_of l.self);
  counted : l.steps + asked_of l.fn.self ≡ l.fn.steps + asked_of l.self;
}

abbrev pub decreases-loop-self : goal.decreases-loop-self
decreases-loop-self g l = 2 ^ 32 - l.self.next
