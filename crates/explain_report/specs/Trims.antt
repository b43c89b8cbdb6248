-- A part of a list of facts that rests on nothing outside it: the facts that are wanted, and those by which they are reached.
use Rattle.std.specs.Prelude.{ℕ, ◌≡◌, ◌<◌, ◌↔◌, List, [], ◌∷◌, Some, slice_get, Contains, AllPairs}
use Rattle.std.specs.List.{AllZip}
use Rattle.dual_walk.specs.declared.fact.Fact.{Fact}
use Rattle.dual_walk.specs.declared.fact.Why.{Why}
use Rattle.dual_walk.specs.declared.fact.Why.TheVariants.{Start, Step, Call, Over}

-- the places that a reason names
abbrev pub named_places : Why → List ℕ
named_places Start = []
named_places (Step j e) = j ∷ []
named_places (Call j) = j ∷ []
named_places (Over j m) = j ∷ m ∷ []

-- each reason names places before its own
pub record RestOnEarlier (facts : List Fact) : Type 0 where
  pub earlier : (i j : ℕ) (c : Fact) → slice_get facts i ≡ Some c → Contains (named_places c.why) j → j < i

-- the wanted places, and each that the reason of a needed one names
pub data Needed (facts : List Fact) (wanted : List ℕ) : ℕ → Type 0 where
  is_wanted : (i : ℕ) → Contains wanted i → Needed facts wanted i
  is_named : (i j : ℕ) (c : Fact) → Needed facts wanted i → slice_get facts i ≡ Some c → Contains (named_places c.why) j → Needed facts wanted j

-- the same reason, its places counted among those of a part
abbrev pub SameReason : List ℕ → Why → Why → Type 0
SameReason places Start Start = Unit {0}
SameReason places (Step j e) (Step k d) = (slice_get places k ≡ Some j) × (d ≡ e)
SameReason places (Call j) (Call k) = slice_get places k ≡ Some j
SameReason places (Over j m) (Over k n) = (slice_get places k ≡ Some j) × (slice_get places n ≡ Some m)
SameReason places why other = ⊥

-- the fact at a place, as it stands in a part
pub record IsMoved (facts : List Fact) (places : List ℕ) (place : ℕ) (c : Fact) : Type 0 where
  pub fact : Fact
  pub stands : slice_get facts place ≡ Some fact
  pub function : c.function ≡ fact.function
  pub old : c.old ≡ fact.old
  pub new : c.new ≡ fact.new
  pub why : SameReason places fact.why c.why

-- the facts at the needed places, in their order
pub record IsTrimmed (facts : List Fact) (wanted : List ℕ) (kept : List Fact) : Type 0 where
  pub places : List ℕ
  pub rising : AllPairs (λ i j. i < j) places
  pub needed : (i : ℕ) → Contains places i ↔ Needed facts wanted i
  pub moved : AllZip (IsMoved facts places) places kept
