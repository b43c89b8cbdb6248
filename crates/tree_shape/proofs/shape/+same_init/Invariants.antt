use Rattle.std.proofs.Common.{◌≡◌, map, take}
use Rattle.csub_tree.specs.Declarations.{init_tree}
use Rattle.tree_shape.specs.Shape.{init_shape}
use Rattle.tree_shape.proofs.shape.+same_init.Given as goal

abbrev pub invariant-same_inits-loop-i : goal.invariant-same_inits-loop-i
invariant-same_inits-loop-i l = map init_shape (map init_tree (take l.i l.a)) ≡ map init_shape (map init_tree (take l.i l.b))
