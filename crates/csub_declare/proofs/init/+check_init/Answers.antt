use Rattle.std.proofs.Common.{arith, ap}
use Rattle.csub_tree.specs.Declarations.{init_tree}
use Rattle.csub_declare.specs.Depths.{init_size}
use Rattle.csub_declare.proofs.Parts.{entry_falls}
use Rattle.csub_declare.proofs.init.+check_init.Goals as goal

pub check_entries-check_init-requires : goal.check_entries-check_init-requires
check_entries-check_init-requires t c =
    let falls = entry_falls c.args.entries.now c.loop-entry.entry-index c.entry-item.result c.loop-entry-test.true in
    let same = ap (λ x. init_size (init_tree x)) c.entry-item.is in
    (omega arith, tt)
