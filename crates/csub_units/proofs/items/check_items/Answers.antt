use Rattle.std.proofs.Common.{◌∙◌, refl}
use Rattle.csub_tree.specs.Units.{item_tree}
use Rattle.csub_rules.specs.Files.{File}
use Rattle.csub_rules.specs.Items.{item_fault, items_fault, past_item, past_items}
use Rattle.csub_units.specs.Views.{file_of}
use Rattle.csub_units.proofs.Loops.{one_more, one_fault_more}
use Rattle.csub_units.proofs.items.check_items.Goals as goal

pub loop-item-preserved : goal.loop-item-preserved
loop-item-preserved c =
    let old : File = file_of c.loop-item.file in
    let new : File = file_of c.check_item.new.file in
    record {
      past = one_more item_tree past_item past_items (λ f i rest. refl) old new c.args.items.now c.loop-item.item-index c.item-item.result
          c.loop-item-test.true c.item-item.is c.in_ok-fault.ensures.past ∙ c.loop-item.invariant.past;
      faults = one_fault_more item_tree past_item item_fault items_fault (λ f i rest. refl) old new c.args.items.now c.loop-item.item-index
          c.item-item.result c.loop-item.least c.in_ok-fault.fault c.earlier-least.result c.loop-item-test.true c.item-item.is
          c.in_ok-fault.ensures.past c.in_ok-fault.ensures.fault c.earlier-least.ensures ∙ c.loop-item.invariant.faults;
    }
