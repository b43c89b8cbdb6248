use Rattle.test_order.proofs.WaitingLemmas.{AreSelected}
use Rattle.test_order.proofs.ordering.selected_tests.Given as goal

abbrev pub invariant-loop-place : goal.invariant-loop-place
invariant-loop-place l = AreSelected l.choices l.place l.tests.items
