use Rattle.carry_history.proofs.StayLemmas.{UnsettledBefore}
use Rattle.carry_history.proofs.staying.list_unsettled.Given as goal

abbrev pub invariant-loop-edge : goal.invariant-loop-edge
invariant-loop-edge l = UnsettledBefore l.images l.edge l.unsettled
