use Rattle.std.proofs.Common.{◌≡◌, drop}
use Rattle.std.specs.List.{find}
use Rattle.csub_semantics.specs.Points.{exit_tree, exit_eq}
use Rattle.flow_graph.proofs.search.find_way.Given as goal

abbrev pub invariant-loop-i : goal.invariant-loop-i
invariant-loop-i l =
    find (λ w. exit_eq (exit_tree w.exit) (exit_tree l.exit)) (drop l.i l.ways) ≡ find (λ w. exit_eq (exit_tree w.exit) (exit_tree l.exit)) l.ways
