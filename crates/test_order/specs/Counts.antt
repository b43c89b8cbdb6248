-- What is counted for one place of the order.
use Rattle.std.specs.Prelude.{ℕ, ◌≡◌, ◌==◌, ◌<◌, Bool, not, List, map, filter, All, AllPairs, Contains}
use Rattle.std.specs.List.{list_any}
use Rattle.edge_trace.specs.Rows.{size, difference}
use Rattle.test_history.specs.Histories.{EntryParts}
use Rattle.test_select.specs.declared.choice.Choice.{Choice}
use Rattle.test_order.specs.declared.placed.Placed.{Placed}
use Rattle.test_order.specs.Orders.{row_of, is_waiting, IsNotBehind}

-- the number of edges that the test crosses and that are not covered
abbrev pub gain_beyond : List EntryParts → List Bool → ℕ → ℕ
gain_beyond entries seen test = size (difference (row_of entries test) seen)

-- a place for the test, with its gain beyond the covered edges
abbrev pub counted : List EntryParts → List Bool → ℕ → Placed
counted entries seen test = record { at = test; gain = gain_beyond entries seen test }

-- the place is one of these, and isn't behind any of them
pub record IsFirstOf (places : List Placed) (place : Placed) : Type 0 where
  pub among : Contains places place
  pub greatest : All (λ other. IsNotBehind place other.gain other.at) places

-- the place is for one of these tests, with its gain beyond the covered edges, and isn't behind any of them
abbrev pub IsFirstOfTests : List EntryParts → List Bool → List ℕ → Placed → Type 0
IsFirstOfTests entries seen tests place = IsFirstOf (map (counted entries seen) tests) place

-- a place for a test that adds no edge
abbrev pub without_gain : ℕ → Placed
without_gain test = record { at = test; gain = 0 }

-- whether the test is among these
abbrev pub is_among : List ℕ → ℕ → Bool
is_among tests test = list_any (λ one. one == test) tests

-- the tests without one
abbrev pub without : ℕ → List ℕ → List ℕ
without gone tests = filter (λ test. not (test == gone)) tests

-- these are the selected tests that have none of these places, in the order of the history
pub record AreWaiting (choices : List Choice) (before : List Placed) (tests : List ℕ) : Type 0 where
  pub members : (test : ℕ) → is_among tests test ≡ is_waiting choices before test
  pub rising : AllPairs (λ test later. test < later) tests
