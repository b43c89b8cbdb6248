use Rattle.std.proofs.Common.{◌∙◌, refl}
use Rattle.csub_tree.specs.Units.{item_tree}
use Rattle.csub_rules.specs.Items.{past_item}
use Rattle.csub_units.specs.Views.{file_of}
use Rattle.csub_resolution.specs.Programs.{defined_by, defined_in}
use Rattle.csub_globals.proofs.LawsLists.{made_more}
use Rattle.csub_globals.proofs.definition.definitions_in.Goals as goal

pub loop-item-preserved : goal.loop-item-preserved
loop-item-preserved c =
    made_more item_tree past_item defined_by defined_in (λ f i rest. refl) (file_of c.loop-item.file) (file_of c.note_item.new.file) c.args.items.now
    c.loop-item.item-index c.item-item.result c.loop-item-test.true c.item-item.is c.in_ok-note_item.ensures.past
    c.loop-item.found c.note_item.new.found c.in_ok-note_item.ensures.found ∙ c.loop-item.invariant
