use Rattle.std.proofs.Common.{take}
use Rattle.test_order.specs.Counts.{IsFirstOfTests}
use Rattle.test_order.proofs.counting.first_of_tests.Given as goal

abbrev pub invariant-loop-i : goal.invariant-loop-i
invariant-loop-i g l = IsFirstOfTests l.entries l.covered (take l.i l.tests) l.first
