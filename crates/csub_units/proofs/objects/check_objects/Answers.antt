use Rattle.std.proofs.Common.{◌∙◌, option_map, refl, Option}
use Rattle.csub_objects.specs.Meaning.{type_tree}
use Rattle.csub_objects.specs.Types.{TypeTree}
use Rattle.csub_scopes.specs.Meanings.{scope_of}
use Rattle.csub_tree.specs.Declarations.{declarator_tree}
use Rattle.csub_rules.specs.Objects.{past_object, past_objects, object_fault, objects_fault}
use Rattle.csub_units.proofs.Loops.{one_more, one_fault_more}
use Rattle.csub_units.proofs.objects.check_objects.Goals as goal

pub loop-d-preserved : goal.loop-d-preserved
loop-d-preserved c =
    let base : Option TypeTree = option_map type_tree c.args.base.now in
    record {
      past = one_more declarator_tree (λ s d. past_object s base d) (λ s ds. past_objects s base ds) (λ s d ds. refl) (scope_of c.loop-d.scope)
          (scope_of c.check_object.new.scope) c.args.vars.now c.loop-d.d-index c.d-item.result c.loop-d-test.true c.d-item.is
          c.in_ok-fault.ensures.past ∙ c.loop-d.invariant.past;
      faults = one_fault_more declarator_tree (λ s d. past_object s base d) (λ s d. object_fault s base d) (λ s ds. objects_fault s base ds)
          (λ s d ds. refl) (scope_of c.loop-d.scope) (scope_of c.check_object.new.scope) c.args.vars.now c.loop-d.d-index c.d-item.result
          c.loop-d.least c.in_ok-fault.fault c.earlier-least.result c.loop-d-test.true c.d-item.is c.in_ok-fault.ensures.past
          c.in_ok-fault.ensures.fault c.earlier-least.ensures ∙ c.loop-d.invariant.faults;
    }
