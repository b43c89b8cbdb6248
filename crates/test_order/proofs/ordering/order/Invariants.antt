use Rattle.std.proofs.Common.{length}
use Rattle.test_order.proofs.TurnLemmas.{Turn}
use Rattle.test_order.proofs.ordering.order.Given as goal

abbrev pub invariant-loop-entries : goal.invariant-loop-entries
invariant-loop-entries g l = Turn l.entries l.choices l.history.edges l.covered l.placed.items l.waiting.items

abbrev pub decreases-loop-entries : goal.decreases-loop-entries
decreases-loop-entries g l = length l.waiting.items
