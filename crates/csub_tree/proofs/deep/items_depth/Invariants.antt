use Rattle.std.proofs.Common.{◌≡◌, map, take}
use Rattle.csub_tree.specs.Units.{item_tree}
use Rattle.csub_tree.specs.Depth.{most, item_depth}
use Rattle.csub_tree.proofs.deep.items_depth.Given as goal

abbrev pub invariant-loop-item : goal.invariant-loop-item
invariant-loop-item l = l.deep ≡ most (map item_depth (map item_tree (take l.item-index l.items)))
