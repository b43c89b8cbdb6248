use Rattle.std.proofs.Common.{◌≡◌, map, take}
use Rattle.csub_tree.specs.Declarations.{declare_tree}
use Rattle.csub_tree.specs.Depth.{most, declare_depth}
use Rattle.csub_tree.proofs.deep.declares_depth.Given as goal

abbrev pub invariant-loop-declare : goal.invariant-loop-declare
invariant-loop-declare l = l.deep ≡ most (map declare_depth (map declare_tree (take l.declare-index l.declares)))
