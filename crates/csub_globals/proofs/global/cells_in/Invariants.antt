use Rattle.std.proofs.Common.{◌≡◌, ◌+◌, map, drop, sum_by}
use Rattle.csub_objects.specs.Types.{cells}
use Rattle.csub_semantics.specs.Types.{GlobalTree}
use Rattle.csub_tree.specs.Units.{item_tree}
use Rattle.csub_units.specs.Views.{file_of}
use Rattle.csub_resolution.specs.Programs.{globals_in}
use Rattle.csub_globals.proofs.global.cells_in.Given as goal

abbrev pub invariant-loop-item : goal.invariant-loop-item
invariant-loop-item l =
    l.all + sum_by (λ (g : GlobalTree). cells g.ctype) (globals_in (file_of l.file) (map item_tree (drop l.item-index l.items)))
    ≡ sum_by (λ (g : GlobalTree). cells g.ctype) (globals_in (file_of l.fn.file) (map item_tree l.items))
