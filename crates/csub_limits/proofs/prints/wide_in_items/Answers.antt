use Rattle.std.proofs.Common.{List, map, refl}
use Rattle.csub_tree.specs.declared.unit.Item.{Item as CodeItem}
use Rattle.csub_tree.specs.Units.{item_tree}
use Rattle.csub_validity.specs.Valid.{most_values}
use Rattle.csub_limits.specs.Limits.{first_above}
use Rattle.csub_limits.specs.Prints.{item_prints, items_prints}
use Rattle.csub_limits.proofs.Above.{above_append, found_here, none_here}
use Rattle.csub_limits.proofs.prints.wide_in_items.Goals as goal

pub returns-in-Some : goal.returns-in-Some
returns-in-Some c =
    found_here (first_above most_values) (above_append most_values) (λ (is : List CodeItem). items_prints (map item_tree is)) (λ (i : CodeItem). item_prints (item_tree i)) (λ i is. refl)
    c.args.items.now c.loop-item.item-index c.item-item.result c.wide_in_item.result c.in-Some.values c.loop-item-test.true c.item-item.is c.loop-item.invariant c.wide_in_item.ensures c.in-Some.is

pub loop-item-preserved : goal.loop-item-preserved
loop-item-preserved c =
    none_here (first_above most_values) (above_append most_values) (λ (is : List CodeItem). items_prints (map item_tree is)) (λ (i : CodeItem). item_prints (item_tree i)) (λ i is. refl)
    c.args.items.now c.loop-item.item-index c.item-item.result c.wide_in_item.result c.loop-item-test.true c.item-item.is c.loop-item.invariant c.wide_in_item.ensures c.in_default.is
