-- Marks of facts, for the functions inside.
use Rattle.std.specs.Prelude.{ℕ, ◌≡◌, ◌<◌, ◌⊎◌, ◌↔◌, Bool, IsTrue, List, length, Some, slice_get, filter, Contains}
use Rattle.std.specs.List.{range_with_len}
use Rattle.edge_trace.specs.Rows.{has}
use Rattle.dual_walk.specs.declared.fact.Fact.{Fact}
use Rattle.explain_report.specs.Trims.{named_places, Needed}

-- these places are marked as well
pub record AddsMarks (before after : List Bool) (places : List ℕ) : Type 0 where
  pub long : length after ≡ length before
  pub each : (i : ℕ) → IsTrue (has after i) ↔ (IsTrue (has before i) ⊎ Contains places i)

-- the needed facts are marked
pub record AreMarked (facts : List Fact) (wanted : List ℕ) (marks : List Bool) : Type 0 where
  pub long : length marks ≡ length facts
  pub each : (i : ℕ) → IsTrue (has marks i) ↔ Needed facts wanted i

-- the reason of a marked fact names marked ones before it
pub record AreClosed (facts : List Fact) (marks : List Bool) : Type 0 where
  pub earlier : (i j : ℕ) (c : Fact) → slice_get facts i ≡ Some c → IsTrue (has marks i) → Contains (named_places c.why) j → j < i
  pub marked : (i j : ℕ) (c : Fact) → slice_get facts i ≡ Some c → IsTrue (has marks i) → Contains (named_places c.why) j → IsTrue (has marks j)

-- the marked places below a bound, rising
abbrev pub marked_places : List Bool → ℕ → List ℕ
marked_places marks n = filter (has marks) (range_with_len 0 n)
