use Rattle.std.proofs.Common.{◌∙◌, refl, List}
use Rattle.csub_tree.specs.Units.{Item, item_tree}
use Rattle.csub_objects.specs.Types.{Name}
use Rattle.csub_rules.specs.Units.{undefined_fault, undefineds_fault}
use Rattle.csub_units.proofs.Loops.{one_fault_more}
use Rattle.csub_units.proofs.unit.check_all_defined.Goals as goal

pub loop-item-preserved : goal.loop-item-preserved
loop-item-preserved c =
    one_fault_more item_tree (λ (d : List Name) (i : Item). d) undefined_fault undefineds_fault (λ d i rest. refl) c.args.defined.now c.args.defined.now
    c.args.items.now c.loop-item.item-index c.item-item.result c.loop-item.least c.check_defined.result c.earlier-least.result
    c.loop-item-test.true c.item-item.is refl c.check_defined.ensures c.earlier-least.ensures ∙ c.loop-item.invariant
