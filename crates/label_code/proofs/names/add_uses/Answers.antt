use Rattle.std.proofs.Common.{◌∙◌}
use Rattle.label_code.specs.Uses.{use_names, use_tree}
use Rattle.label_code.proofs.NameLemmas.{next_names}
use Rattle.label_code.proofs.names.add_uses.Goals as goal

pub loop-used-preserved : goal.loop-used-preserved
loop-used-preserved c =
    next_names use_tree use_names c.args.uses.now c.used-item.result c.loop-used.used-index c.loop-used.set c.add_use.new.set c.loop-used-test.true c.used-item.is c.in_ok-add_use.ensures
    ∙ c.loop-used.invariant
