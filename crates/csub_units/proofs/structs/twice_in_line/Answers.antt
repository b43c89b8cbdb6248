use Rattle.std.proofs.Common.{◌∙◌, rules}
use Rattle.csub_units.proofs.Members.{names_more, names_fault_more}
use Rattle.csub_units.proofs.structs.twice_in_line.Goals as goal

pub loop-d-preserved : goal.loop-d-preserved
loop-d-preserved c = record {
  past = names_more c.loop-d.seen c.add.new.self c.args.vars.now c.loop-d.d-index c.d-item.result c.loop-d-test.true c.d-item.is
      (search rules) ∙ c.loop-d.invariant.past;
  faults = names_fault_more c.loop-d.seen c.add.new.self c.args.vars.now c.loop-d.d-index c.d-item.result c.loop-d-test.true c.d-item.is
      (search rules) c.loop-d.least c.fault_if-again.result c.earlier-least.result (search rules) c.earlier-least.ensures ∙ c.loop-d.invariant.faults;
}
