use Rattle.std.proofs.Common.{◌≡◌, ◌++◌, map, drop}
use Rattle.csub_semantics.specs.Types.{global_tree}
use Rattle.csub_tree.specs.Units.{item_tree}
use Rattle.csub_units.specs.Views.{file_of}
use Rattle.csub_resolution.specs.Programs.{globals_in}
use Rattle.csub_globals.proofs.global.globals_in.Given as goal

abbrev pub invariant-loop-item : goal.invariant-loop-item
invariant-loop-item l =
    map global_tree l.made.items ++ globals_in (file_of l.file) (map item_tree (drop l.item-index l.items)) ≡ globals_in (file_of l.fn.file) (map item_tree l.items)
