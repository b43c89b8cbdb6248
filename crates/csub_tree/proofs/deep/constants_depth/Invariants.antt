use Rattle.std.proofs.Common.{◌≡◌, map, take}
use Rattle.csub_tree.specs.Units.{constant_tree}
use Rattle.csub_tree.specs.Depth.{most, constant_depth}
use Rattle.csub_tree.proofs.deep.constants_depth.Given as goal

abbrev pub invariant-loop-constant : goal.invariant-loop-constant
invariant-loop-constant l = l.deep ≡ most (map constant_depth (map constant_tree (take l.constant-index l.constants)))
