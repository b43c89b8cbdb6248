use Rattle.std.proofs.Common.{◌≡◌, map, take}
use Rattle.csub_semantics.specs.Types.{global_tree}
use Rattle.csub_flat.specs.Frames.{objects_size, global_object}
use Rattle.csub_flat.proofs.globals.globals_size.Given as goal

abbrev pub invariant-loop-i : goal.invariant-loop-i
invariant-loop-i l = objects_size (map global_object (map global_tree (take l.i l.globals))) ≡ l.size
