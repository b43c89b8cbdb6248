-- The order of additional edge coverage: "additional greedy" (Rothermel, Untch, Chu and Harrold, Prioritizing Test Cases For
-- Regression Testing, IEEE Transactions on Software Engineering 27(10), 2001), here with edges for their statements.
use Rattle.std.specs.Prelude.{ℕ, ◌≡◌, ◌==◌, ◌<◌, ◌≤◌, Bool, IsTrue, not, ◌&&◌, List, [], map, length, take, All, slice_index_or}
use Rattle.std.specs.List.{list_any}
use Rattle.edge_trace.specs.Rows.{has, below, size, difference}
use Rattle.test_history.specs.Histories.{EntryParts}
use Rattle.test_select.specs.declared.choice.Choice.{Choice}
use Rattle.test_select.specs.declared.choice.Choice.TheVariants.{Left}
use Rattle.test_select.specs.Selection.{is_selected}
use Rattle.test_order.specs.declared.placed.Placed.{Placed}

-- the edges that a test crosses; a test is named by its place in the history, from 0
abbrev pub row_of : List EntryParts → ℕ → List Bool
row_of entries test = slice_index_or (map (λ entry. entry.crossed) entries) test []

-- the edges below the bound that some of the placed tests crosses
abbrev pub covered : List EntryParts → ℕ → List Placed → List Bool
covered entries bound placed = below bound (λ edge. list_any (λ place. has (row_of entries place.at) edge) placed)

-- the gain of a test where these are placed before it: the number of edges that it crosses and that none of them crosses
abbrev pub gain_after : List EntryParts → List Placed → ℕ → ℕ
gain_after entries before test = size (difference (row_of entries test) (covered entries (length (row_of entries test)) before))

-- whether the test is selected; none from the end of the choices on is
abbrev pub is_selected_at : List Choice → ℕ → Bool
is_selected_at choices test = is_selected (slice_index_or choices test Left)

-- whether the test has one of these places
abbrev pub is_placed : List Placed → ℕ → Bool
is_placed placed test = list_any (λ place. place.at == test) placed

-- whether the test is selected and has none of these places
abbrev pub is_waiting : List Choice → List Placed → ℕ → Bool
is_waiting choices before test = not (is_placed before test) && is_selected_at choices test

-- the place isn't behind another test of that gain: that gain is smaller, or equal, and then the other test doesn't stand
-- earlier in the history
abbrev pub IsNotBehind : Placed → ℕ → ℕ → Type 0
IsNotBehind place gain other = (gain ≤ place.gain) × (gain ≡ place.gain → place.at ≤ other)

-- the place comes next after those before it: its test is selected and was not placed, it has that test's gain, and it isn't
-- behind any selected test that was not placed
pub record IsNext (entries : List EntryParts) (choices : List Choice) (before : List Placed) (place : Placed) : Type 0 where
  pub waits : IsTrue (is_waiting choices before place.at)
  pub gain : place.gain ≡ gain_after entries before place.at
  pub greatest : (other : ℕ) → IsTrue (is_waiting choices before other) → IsNotBehind place (gain_after entries before other) other

-- the places are the order of the selected tests: each test stands in the history, each place comes next after those before
-- it, and every selected test has a place
pub record IsOrder (entries : List EntryParts) (choices : List Choice) (placed : List Placed) : Type 0 where
  pub stand : All (λ place. place.at < length entries) placed
  pub each : (k : ℕ) (d : Placed) → k < length placed → IsNext entries choices (take k placed) (slice_index_or placed k d)
  pub all : (test : ℕ) → IsTrue (is_selected_at choices test) → IsTrue (is_placed placed test)

-- an order is determined by the entries and the choices
abbrev pub OrderIsDetermined : Type 0
OrderIsDetermined =
    (entries : List EntryParts) (choices : List Choice) (placed other : List Placed)
    → IsOrder entries choices placed → IsOrder entries choices other → placed ≡ other
