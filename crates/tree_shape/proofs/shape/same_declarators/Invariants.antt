use Rattle.std.proofs.Common.{◌≡◌, map, take}
use Rattle.csub_tree.specs.Declarations.{declarator_tree}
use Rattle.tree_shape.specs.Shape.{declarator_shape}
use Rattle.tree_shape.proofs.shape.same_declarators.Given as goal

abbrev pub invariant-loop-i : goal.invariant-loop-i
invariant-loop-i l = map declarator_shape (map declarator_tree (take l.i l.a)) ≡ map declarator_shape (map declarator_tree (take l.i l.b))
