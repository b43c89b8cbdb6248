use Rattle.std.proofs.Common.{◌≡◌, map, take}
use Rattle.csub_tree.specs.Declarations.{declare_tree}
use Rattle.tree_shape.specs.Shape.{declare_shape}
use Rattle.tree_shape.proofs.shape.same_declares.Given as goal

abbrev pub invariant-loop-i : goal.invariant-loop-i
invariant-loop-i l = map declare_shape (map declare_tree (take l.i l.a)) ≡ map declare_shape (map declare_tree (take l.i l.b))
