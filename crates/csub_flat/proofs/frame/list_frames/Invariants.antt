use Rattle.std.proofs.Common.{map, take}
use Rattle.std.specs.List.{AllZip}
use Rattle.csub_semantics.specs.Syntax.{function_tree}
use Rattle.csub_flat.specs.Objects.{IsFrameOf}
use Rattle.csub_flat.proofs.frame.list_frames.Given as goal

-- the frames of the functions so far
abbrev pub invariant-loop-i : goal.invariant-loop-i
invariant-loop-i l = AllZip IsFrameOf (map function_tree (take l.i l.functions)) l.frames.items
