use Rattle.std.proofs.Common.{◌≡◌, ℕ, ℤ, ◌<◌, ◌≤◌, Some, None}
use Rattle.std.specs.List.{slice_get}
use Rattle.flow_graph.specs.declared.node.GraphPoint.{GraphPoint}
use Rattle.flow_graph.specs.Cases.{place_in, ArePlaces}
use Rattle.flow_graph.proofs.case_table.list_cases.Given as goal

-- the cases of the points so far are entered, and none of the others
abbrev pub invariant-loop-i : goal.invariant-loop-i
invariant-loop-i l = record {
  entered : (n : ℕ) (p : GraphPoint) → n < l.i → slice_get l.points n ≡ Some p → ArePlaces p.node.ways.items (place_in l.cases n);
  fresh : (n : ℕ) (v : ℤ) → l.i ≤ n → place_in l.cases n v ≡ None;
}
