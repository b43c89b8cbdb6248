-- The laws of the first fault of a source.
use Rattle.std.specs.Prelude.{◌≡◌, Some, None}
use Rattle.csub_tree.specs.Units.{Source}
use Rattle.csub_rules.specs.declared.fault.Fault.{Fault}
use Rattle.csub_rules.specs.Faults.{IsFirst}
use Rattle.csub_rules.specs.Units.{unit_fault}
use Rattle.csub_rules.specs.BrokenItem.{BrokenPlaced, BrokenUnit}

-- it is a broken rule
abbrev pub UnitFaultsAreBroken : Type 0
UnitFaultsAreBroken = (u : Source) (f : Fault) → unit_fault u ≡ Some f → BrokenUnit u.items f

-- Where a rule is broken at a place, it is such a rule, and no rule is broken before it. So a missing `main` is told where
-- nothing else is.
abbrev pub UnitFaultsAreLeast : Type 0
UnitFaultsAreLeast = (u : Source) (f g : Fault) → unit_fault u ≡ Some f → BrokenPlaced u.items g → BrokenPlaced u.items f × IsFirst f g

-- where there is none, no rule is broken
abbrev pub NoUnitFaultNothingBroken : Type 0
NoUnitFaultNothingBroken = (u : Source) (g : Fault) → unit_fault u ≡ None → BrokenUnit u.items g → ⊥
