-- How a graph finds the way out of a `switch` by a case value. No definition of what the graph is needs this file.
use Rattle.std.specs.Prelude.{ℕ, ◌≡◌, ◌<◌, ℤ, List, length, Option, Some, IfSome, slice_get, find}
use Rattle.std.specs.Option.{option_and_then}
use Rattle.std.specs.Ordering.{nat_cmp, int_cmp, ordering_then}
use Rattle.std.specs.declared.cmp.Ordering.{Ordering}
use Rattle.std.specs.BTreeMap.{BTreeMap, get}
use Rattle.csub_semantics.specs.Points.{exit_tree, exit_eq, on_case}
use Rattle.flow_graph.specs.declared.node.GraphWay.{GraphWay}
use Rattle.flow_graph.specs.declared.node.GraphPoint.{GraphPoint}

-- a case of a `switch` by the number of its point and its value, and the order of these
abbrev pub Case : Type 0
Case = ℕ × ℤ

abbrev pub case_cmp : Case → Case → Ordering
case_cmp a b = ordering_then (nat_cmp a.0 b.0) (int_cmp a.1 b.1)

-- the place among the ways out of its point that is entered for a case
abbrev pub place_in : BTreeMap Case ℕ → ℕ → ℤ → Option ℕ
place_in cases n v = get case_cmp cases (n, v)

-- by each value the place of the first way out by that case, if there is one
pub record ArePlaces (ways : List GraphWay) (place : ℤ → Option ℕ) : Type 0 where
  pub found : (v : ℤ) → option_and_then (slice_get ways) (place v) ≡ find (λ w. exit_eq (exit_tree w.exit) (on_case v)) ways
  pub within : (v : ℤ) → IfSome (place v) (λ i. i < length ways)

-- the cases of all points are entered
abbrev pub AreEntered : List GraphPoint → BTreeMap Case ℕ → Type 0
AreEntered points cases = (n : ℕ) (p : GraphPoint) → slice_get points n ≡ Some p → ArePlaces p.node.ways.items (place_in cases n)
