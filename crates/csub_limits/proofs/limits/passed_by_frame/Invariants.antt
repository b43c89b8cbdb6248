use Rattle.std.proofs.Common.{◌≡◌, map, drop}
use Rattle.csub_semantics.specs.Syntax.{function_tree}
use Rattle.csub_validity.specs.Valid.{frame_cells, most_cells}
use Rattle.csub_limits.specs.Limits.{passed}
use Rattle.csub_limits.proofs.limits.passed_by_frame.Given as goal

-- none of the frames so far has too many cells
abbrev pub invariant-loop-function : goal.invariant-loop-function
invariant-loop-function l =
    passed 4 most_cells (map frame_cells (map function_tree l.functions)) ≡ passed 4 most_cells (map frame_cells (map function_tree (drop l.function-index l.functions)))
