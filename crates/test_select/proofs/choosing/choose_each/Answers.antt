use Rattle.std.proofs.Common.{◌+◌, sym, subst, take}
use Rattle.std.specs.List.{AllZip}
use Rattle.test_history.specs.Histories.{EntryParts}
use Rattle.test_select.specs.declared.choice.Choice.{Choice}
use Rattle.test_select.specs.Selection.{Chooses}
use Rattle.test_select.proofs.ZipLemmas.{all_zip-next}
use Rattle.test_select.proofs.choosing.choose_each.Goals as goal

pub loop-entry-preserved : goal.loop-entry-preserved
loop-entry-preserved c =
    subst (λ l. AllZip (λ (entry : EntryParts) choice. Chooses entry.crossed c.args.danger.now choice) (take (c.loop-entry.entry-index + 1) c.args.entries.now) l) (sym c.in_ok-push.ensures.items)
    (all_zip-next (λ (entry : EntryParts) (choice : Choice). Chooses entry.crossed c.args.danger.now choice) c.args.entries.now c.loop-entry.choices.items c.loop-entry.entry-index c.entry-item.result c.choose.result c.loop-entry-test.true c.entry-item.is c.loop-entry.invariant c.choose.ensures)
