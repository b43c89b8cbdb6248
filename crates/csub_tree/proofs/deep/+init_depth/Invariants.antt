use Rattle.std.proofs.Common.{◌≡◌, map, take}
use Rattle.csub_tree.specs.Declarations.{init_tree, inits_of}
use Rattle.csub_tree.specs.Depth.{inits_depth}
use Rattle.csub_tree.proofs.deep.+init_depth.Given as goal

abbrev pub invariant-inits_depth-loop-init : goal.invariant-inits_depth-loop-init
invariant-inits_depth-loop-init l = l.deep ≡ inits_depth (inits_of (map init_tree (take l.init-index l.inits)))
