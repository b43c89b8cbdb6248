use Rattle.std.proofs.Common.{◌∙◌, map, refl}
use Rattle.csub_objects.specs.Meaning.{type_tree}
use Rattle.csub_tree.specs.Declarations.{param_tree}
use Rattle.csub_rules.specs.Faults.{◌or_earlier◌}
use Rattle.csub_rules.specs.Here.{Here}
use Rattle.csub_rules.specs.Params.{param_fault}
use Rattle.csub_bodies.specs.Views.{here_of}
use Rattle.csub_rules.specs.Heads.{param_name_fault, params_fault, past_param, past_params}
use Rattle.csub_units.proofs.Loops.{one_more, one_fault_more}
use Rattle.csub_units.proofs.ParamTypes.{types_more}
use Rattle.csub_units.proofs.params.check_params.Goals as goal

pub loop-p-preserved : goal.loop-p-preserved
loop-p-preserved c =
    let old : Here = here_of c.loop-p.here in
    let new : Here = here_of c.check_one_param.new.here in
    record {
      past = one_more param_tree past_param past_params (λ h p ps. refl) old new c.args.params.now c.loop-p.p-index c.p-item.result c.loop-p-test.true
          c.p-item.is c.in_ok-fault.ensures.past ∙ c.loop-p.invariant.past;
      types = types_more old new (map type_tree c.loop-p.types.items) (map type_tree c.check_one_param.new.types.items) c.args.params.now c.loop-p.p-index
          c.p-item.result c.loop-p-test.true c.p-item.is c.in_ok-fault.ensures.past c.in_ok-fault.ensures.types ∙ c.loop-p.invariant.types;
      faults = one_fault_more param_tree past_param (λ h p. param_name_fault h p.name or_earlier param_fault h.scope p) params_fault (λ h p ps. refl)
          old new c.args.params.now c.loop-p.p-index c.p-item.result c.loop-p.least c.in_ok-fault.fault c.earlier-least.result c.loop-p-test.true
          c.p-item.is c.in_ok-fault.ensures.past c.in_ok-fault.ensures.fault c.earlier-least.ensures ∙ c.loop-p.invariant.faults;
    }
