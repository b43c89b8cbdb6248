-- Sources as wholes, and the earliest place where one breaks a rule.
use Rattle.std.specs.Prelude.{List, [], ◌∷◌, Option, None, not}
use Rattle.std.specs.Option.{option_or}
use Rattle.csub_text.specs.declared.span.Span.{Span}
use Rattle.csub_tree.specs.Units.{Item, Struct, Enum, Object, Prototype, Function, Source}
use Rattle.csub_objects.specs.Types.{Name, main_name}
use Rattle.csub_rules.specs.declared.fault.Fault.{Fault}
use Rattle.csub_rules.specs.Faults.{fault_if, ◌or_earlier◌}
use Rattle.csub_rules.specs.Labels.{stands_in}
use Rattle.csub_rules.specs.Files.{no_file}
use Rattle.csub_rules.specs.Items.{past_items, items_fault}

-- M19: a declared function is defined nowhere in the source; the functions that are defined have these names
abbrev pub undefined_fault : List Name → Item → Option Fault
undefined_fault defined (Struct tag ds) = None
undefined_fault defined (Enum tag cs) = None
undefined_fault defined (Object d) = None
undefined_fault defined (Prototype h) = fault_if (not (stands_in h.name.text defined)) 19 h.name.span
undefined_fault defined (Function h body s) = None

abbrev pub undefineds_fault : List Name → List Item → Option Fault
undefineds_fault defined [] = None
undefineds_fault defined (i ∷ rest) = undefined_fault defined i or_earlier undefineds_fault defined rest

-- the names of the functions that a source defines
abbrev pub all_defined : List Item → List Name
all_defined items = (past_items no_file items).defined

-- the earliest fault that has a place in the source
abbrev pub placed_fault : List Item → Option Fault
placed_fault items = items_fault no_file items or_earlier undefineds_fault (all_defined items) items

-- M19: `main` is defined nowhere. This has no place in the source: it is told last, at the empty span before the first byte.
abbrev pub no_place : Span
no_place = record { start = 0; end = 0 }

abbrev pub main_fault : List Item → Option Fault
main_fault items = fault_if (not (stands_in main_name (all_defined items))) 19 no_place

-- the first rule that a source breaks
abbrev pub unit_fault : Source → Option Fault
unit_fault u = option_or (placed_fault u.items) (main_fault u.items)
