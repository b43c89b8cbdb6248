use Rattle.std.proofs.Common.{◌≡◌, map, take}
use Rattle.csub_tree.specs.Declarations.{param_tree}
use Rattle.csub_tree.specs.Depth.{most, param_depth}
use Rattle.csub_tree.proofs.deep.params_depth.Given as goal

abbrev pub invariant-loop-param : goal.invariant-loop-param
invariant-loop-param l = l.deep ≡ most (map param_depth (map param_tree (take l.param-index l.params)))
