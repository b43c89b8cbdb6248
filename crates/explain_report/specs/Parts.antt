-- Parts of lists of facts, for the functions inside: their facts, and the new places of the old ones.
use Rattle.std.specs.Prelude.{ℕ, ◌≡◌, List, length, Some, slice_get, slice_index, Contains}
use Rattle.std.specs.List.{AllZip}
use Rattle.dual_walk.specs.declared.fact.Fact.{Fact}
use Rattle.dual_walk.specs.declared.fact.Why.{Why}
use Rattle.dual_walk.specs.declared.fact.Why.TheVariants.{Start, Step, Call, Over}
use Rattle.explain_report.specs.declared.part.Part.{Part}
use Rattle.explain_report.specs.Trims.{IsMoved, IsTrimmed}

-- a reason by the new places
abbrev pub renumbered : List ℕ → Why → Why
renumbered table Start = Start
renumbered table (Step j e) = Step (slice_index table j) e
renumbered table (Call j) = Call (slice_index table j)
renumbered table (Over j m) = Over (slice_index table j) (slice_index table m)

-- the facts at these places, and the new place of each
pub record IsPartAt (facts : List Fact) (places : List ℕ) (part : Part) : Type 0 where
  pub moved : AllZip (IsMoved facts places) places part.facts.items
  pub long : length part.table.items ≡ length facts
  pub table : (k place : ℕ) → slice_get places k ≡ Some place → slice_get part.table.items place ≡ Some k

-- the wanted facts and those on which they rest, and the new places of the wanted ones
pub record IsPartOf (facts : List Fact) (wanted : List ℕ) (part : Part) : Type 0 where
  pub trimmed : IsTrimmed facts wanted part.facts.items
  pub long : length part.table.items ≡ length facts
  pub table : (place : ℕ) → Contains wanted place → slice_get trimmed.places (slice_index part.table.items place) ≡ Some place
