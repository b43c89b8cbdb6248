use Rattle.std.proofs.Common.{take}
use Rattle.test_order.specs.Counts.{IsFirstOf}
use Rattle.test_order.proofs.counting.first_of_places.Given as goal

abbrev pub invariant-loop-i : goal.invariant-loop-i
invariant-loop-i l = IsFirstOf (take l.i l.places) l.first
