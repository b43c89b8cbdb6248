use Rattle.std.proofs.Common.{◌∙◌, refl, map}
use Rattle.csub_semantics.specs.Syntax.{function_tree}
use Rattle.csub_tree.specs.Units.{item_tree}
use Rattle.csub_rules.specs.Files.{File}
use Rattle.csub_rules.specs.Items.{past_item}
use Rattle.csub_units.specs.Views.{file_of}
use Rattle.csub_resolution.specs.Programs.{functions_by, functions_in}
use Rattle.csub_items.proofs.Bodies.{fine_this, fine_more}
use Rattle.csub_globals.proofs.LawsLists.{made_more}
use Rattle.csub_items.proofs.function.functions_in.Goals as goal

pub lower_item-requires : goal.lower_item-requires
lower_item-requires c =
    (fine_this (file_of c.loop-item.file) c.args.items.now c.loop-item.item-index c.item-item.result c.loop-item-test.true c.item-item.is
    c.loop-item.invariant.fine).0

pub loop-item-preserved : goal.loop-item-preserved
loop-item-preserved c =
    let old : File = file_of c.loop-item.file in
    let new : File = file_of c.lower_item.new.file in
    record {
      made = made_more item_tree past_item (functions_by c.args.definitions.now) (functions_in c.args.definitions.now) (λ f i rest. refl) old new
          c.args.items.now c.loop-item.item-index c.item-item.result c.loop-item-test.true c.item-item.is c.in_ok-lower_item.ensures.past
          (map function_tree c.loop-item.made.items) (map function_tree c.lower_item.new.made.items) c.in_ok-lower_item.ensures.made
          ∙ c.loop-item.invariant.made;
      fine = fine_more old new c.args.items.now c.loop-item.item-index c.item-item.result c.loop-item-test.true c.item-item.is
          c.in_ok-lower_item.ensures.past c.loop-item.invariant.fine;
    }
