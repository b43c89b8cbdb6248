use Rattle.std.proofs.Common.{◌≡◌, ◌++◌, map, drop}
use Rattle.csub_tree.specs.Units.{item_tree}
use Rattle.csub_units.specs.Views.{file_of}
use Rattle.csub_resolution.specs.Programs.{defined_in}
use Rattle.csub_globals.proofs.definition.definitions_in.Given as goal

abbrev pub invariant-loop-item : goal.invariant-loop-item
invariant-loop-item l =
    l.found ++ defined_in (file_of l.file) (map item_tree (drop l.item-index l.items)) ≡ defined_in (file_of l.fn.file) (map item_tree l.items)
