-- The first fault of a source lies where its tree lies. Crates above cite this.
use Rattle.std.proofs.Common.{◌≡◌, ℕ, List, [], ◌∷◌, Option, Some, None, arith}
use Rattle.std.specs.Option.{option_or}
use Rattle.csub_tree.specs.Units.{Item, Struct, Enum, Object, Prototype, Function, Source}
use Rattle.csub_objects.specs.Types.{Name}
use Rattle.csub_rules.specs.declared.fault.Fault.{Fault}
use Rattle.csub_rules.proofs.LawsSound.{nothing, join}
use Rattle.csub_rules.specs.Files.{no_file}
use Rattle.csub_rules.specs.Units.{undefined_fault, undefineds_fault, all_defined, placed_fault, no_place, main_fault, unit_fault}
use Rattle.fault_places.specs.Within.{IsWithin, WithinEach, WithinItem, SpansWithin}
use Rattle.fault_places.proofs.Told.{Told, told_if}
use Rattle.fault_places.proofs.ToldItems.{items_told}

module _ (n : ℕ) where
  undefined_told : (defined : List Name) (i : Item) → WithinItem n i → Told n (undefined_fault defined i)
  undefined_told defined (Struct tag ds) w = nothing
  undefined_told defined (Enum tag cs) w = nothing
  undefined_told defined (Object d) w = nothing
  undefined_told defined (Prototype h) w = told_if _ 19 w.1
  undefined_told defined (Function h body s) w = nothing

  undefineds_told : (defined : List Name) (items : List Item) → WithinEach (WithinItem n) items → Told n (undefineds_fault defined items)
  undefineds_told defined [] w = nothing
  undefineds_told defined (i ∷ rest) w = join (undefined_told defined i w.0) (undefineds_told defined rest w.1)

  placed_told : (items : List Item) → WithinEach (WithinItem n) items → Told n (placed_fault items)
  placed_told items w = join (items_told n no_file items w) (undefineds_told (all_defined items) items w)

  -- the empty place before the first byte lies in every source
  start_within : IsWithin n no_place
  start_within = record { ordered = omega arith; within = omega arith }

  last_told : (o last : Option Fault) → Told n o → Told n last → Told n (option_or o last)
  last_told None last p q = q
  last_told (Some f) last p q = p

  unit_told : (u : Source) → SpansWithin n u → Told n (unit_fault u)
  unit_told u w = last_told (placed_fault u.items) (main_fault u.items) (placed_told u.items w) (told_if _ 19 start_within)

-- and where no function `main` is defined, at the beginning of the source
pub fault_within : (n : ℕ) (u : Source) (f : Fault) → SpansWithin n u → unit_fault u ≡ Some f → IsWithin n f.span
fault_within n u f w h = (unit_told n u w).holds f h
