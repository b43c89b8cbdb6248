use Rattle.std.proofs.Common.{◌≡◌, length}
use Rattle.carry_history.proofs.MoveLemmas.{ImagesBefore}
use Rattle.carry_history.proofs.moving.move_row.Given as goal

abbrev pub invariant-loop-edge : goal.invariant-loop-edge
invariant-loop-edge l = record {
  edges : length l.moved ≡ l.edges;
  images : ImagesBefore l.images l.crossed l.edge l.moved;
}
