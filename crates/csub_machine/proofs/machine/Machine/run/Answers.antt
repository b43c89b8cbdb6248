use Rattle.std.proofs.Common.{◌∙◌, sym}
use Rattle.csub_machine.proofs.WholeLemmas.{whole_ended}
use Rattle.csub_machine.proofs.machine.Machine.run.Goals as goal

pub returns-in-Some-clause-results : goal.returns-in-Some-clause-results
returns-in-Some-clause-results c =
    whole_ended c.args.self.now c.go_on.new.self c.settle.new.self c.go_on.new.self.done c.args.budget c.in-Some.status
    c.go_on.ensures.seen c.settle.ensures (sym c.go_on.ensures.status ∙ c.in-Some.is) c.go_on.ensures.within
