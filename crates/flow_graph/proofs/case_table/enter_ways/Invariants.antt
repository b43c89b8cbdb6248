use Rattle.std.proofs.Common.{◌≡◌, ◌≢◌, ℕ, ℤ, ◌<◌, length, drop, IfSome}
use Rattle.std.specs.List.{slice_get}
use Rattle.std.specs.Option.{option_and_then}
use Rattle.flow_graph.specs.Cases.{place_in}
use Rattle.flow_graph.proofs.CasePlaces.{first_by}
use Rattle.flow_graph.proofs.case_table.enter_ways.Given as goal

-- the ways out from here on are entered, and nothing of other points
abbrev pub invariant-loop-i : goal.invariant-loop-i
invariant-loop-i l = record {
  found : (v : ℤ) → option_and_then (slice_get l.ways) (place_in l.cases l.point v) ≡ first_by v (drop l.i l.ways);
  within : (v : ℤ) → IfSome (place_in l.cases l.point v) (λ n. n < length l.ways);
  others : (n : ℕ) (v : ℤ) → n ≢ l.point → place_in l.cases n v ≡ place_in l.fn.cases n v;
}
