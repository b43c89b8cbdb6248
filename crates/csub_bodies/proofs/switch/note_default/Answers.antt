use Rattle.std.proofs.Common.{◌∙◌, ap, sym}
use Rattle.csub_rules.specs.Faults.{fault_if}
use Rattle.csub_bodies.proofs.Switching.{default_seen, with_the_default}
use Rattle.csub_bodies.proofs.switch.note_default.Goals as goal

pub returns-clause-fault : goal.returns-clause-fault
returns-clause-fault c = c.fault_if.ensures ∙ ap (λ b. fault_if b 18 c.args.at) (sym (default_seen c.args.seen.now.has_default c.args.seen.now.values.keys))

pub returns-clause-after : goal.returns-clause-after
returns-clause-after c = with_the_default c.args.seen.now.has_default c.args.seen.now.values.keys
