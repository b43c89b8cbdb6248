use Rattle.std.proofs.Common.{◌≡◌, map, take}
use Rattle.csub_tree.specs.Declarations.{declarator_tree}
use Rattle.csub_tree.specs.Depth.{most, declarator_depth}
use Rattle.csub_tree.proofs.deep.declarators_depth.Given as goal

abbrev pub invariant-loop-var : goal.invariant-loop-var
invariant-loop-var l = l.deep ≡ most (map declarator_depth (map declarator_tree (take l.var-index l.vars)))
