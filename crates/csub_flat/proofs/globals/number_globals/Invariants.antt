use Rattle.std.proofs.Common.{◌≡◌, map, take}
use Rattle.csub_semantics.specs.Types.{global_tree}
use Rattle.csub_flat.specs.Frames.{objects_size, global_object}
use Rattle.csub_flat.specs.Globals.{AreSlotsOf}
use Rattle.csub_flat.proofs.globals.number_globals.Given as goal

-- the slots of the globals so far
abbrev pub invariant-loop-i : goal.invariant-loop-i
invariant-loop-i l =
    AreSlotsOf (map global_object (map global_tree (take l.i l.globals))) l.slots
    × (objects_size (map global_object (map global_tree (take l.i l.globals))) ≡ l.slot)
