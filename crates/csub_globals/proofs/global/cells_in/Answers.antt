use Rattle.std.proofs.Common.{◌∙◌, refl}
use Rattle.csub_objects.specs.Types.{cells}
use Rattle.csub_semantics.specs.Types.{GlobalTree}
use Rattle.csub_tree.specs.Units.{item_tree}
use Rattle.csub_rules.specs.Items.{past_item}
use Rattle.csub_units.specs.Views.{file_of}
use Rattle.csub_resolution.specs.Programs.{globals_in, globals_of}
use Rattle.csub_globals.proofs.LawsLists.{count_more}
use Rattle.csub_globals.proofs.global.cells_in.Goals as goal

pub loop-item-preserved : goal.loop-item-preserved
loop-item-preserved c =
    count_more item_tree past_item globals_of globals_in (λ f i rest. refl) (file_of c.loop-item.file) (file_of c.count_item.new.file) c.args.items.now
    c.loop-item.item-index c.item-item.result c.loop-item-test.true c.item-item.is c.in_ok-all.ensures.past
    (λ (g : GlobalTree). cells g.ctype) c.loop-item.all c.in_ok-all.all c.in_ok-all.ensures.count ∙ c.loop-item.invariant
