use Rattle.std.proofs.Common.{◌≡◌, ◌++◌, map, take}
use Rattle.test_order.specs.Counts.{without_gain}
use Rattle.test_order.proofs.ordering.place_rest.Given as goal

abbrev pub invariant-loop-test : goal.invariant-loop-test
invariant-loop-test l = l.placed.items ≡ l.fn.placed.items ++ map without_gain (take l.test-index l.waiting)
