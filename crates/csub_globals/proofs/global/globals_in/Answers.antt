use Rattle.std.proofs.Common.{◌∙◌, refl, map}
use Rattle.csub_semantics.specs.Types.{global_tree}
use Rattle.csub_tree.specs.Units.{item_tree}
use Rattle.csub_rules.specs.Items.{past_item}
use Rattle.csub_units.specs.Views.{file_of}
use Rattle.csub_resolution.specs.Programs.{globals_in, globals_of}
use Rattle.csub_globals.proofs.LawsLists.{made_more}
use Rattle.csub_globals.proofs.global.globals_in.Goals as goal

pub loop-item-preserved : goal.loop-item-preserved
loop-item-preserved c =
    made_more item_tree past_item globals_of globals_in (λ f i rest. refl) (file_of c.loop-item.file) (file_of c.lower_item.new.file) c.args.items.now
    c.loop-item.item-index c.item-item.result c.loop-item-test.true c.item-item.is c.in_ok-lower_item.ensures.past
    (map global_tree c.loop-item.made.items) (map global_tree c.lower_item.new.made.items) c.in_ok-lower_item.ensures.made ∙ c.loop-item.invariant
