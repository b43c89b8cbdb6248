use Rattle.std.proofs.Common.{◌∙◌, option_map}
use Rattle.csub_objects.specs.Meaning.{type_tree}
use Rattle.csub_bodies.specs.Views.{here_of}
use Rattle.csub_bodies.proofs.Loops.{past_more, fault_more}
use Rattle.csub_bodies.proofs.local.check_vars.Goals as goal

pub loop-d-preserved : goal.loop-d-preserved
loop-d-preserved c = record {
  past = past_more (here_of c.loop-d.here) (here_of c.check_var.new.here) (option_map type_tree c.args.base.now) c.args.vars.now c.loop-d.d-index
      c.d-item.result c.loop-d-test.true c.d-item.is c.in_ok-fault.ensures.past ∙ c.loop-d.invariant.past;
  faults = fault_more (here_of c.loop-d.here) (here_of c.check_var.new.here) (option_map type_tree c.args.base.now) c.args.vars.now c.loop-d.d-index
      c.d-item.result c.loop-d.least c.in_ok-fault.fault c.earlier-least.result c.loop-d-test.true c.d-item.is c.in_ok-fault.ensures.past
      c.in_ok-fault.ensures.fault c.earlier-least.ensures ∙ c.loop-d.invariant.faults;
}
