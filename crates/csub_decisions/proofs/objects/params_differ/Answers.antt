use Rattle.std.proofs.Common.{◌≢◌}
use Rattle.csub_objects.specs.declared.types.Member.{Member}
use Rattle.csub_validity.proofs.LawsLists.{new_from_pairs}
use Rattle.csub_decisions.proofs.objects.params_differ.Goals as goal

pub returns-then-not-is_new_param : goal.returns-then-not-is_new_param
returns-then-not-is_new_param c =
    (λ h. cc, λ h. c.if-not-is_new_param.ensures.1 (new_from_pairs (λ (p : Member). p.name) (λ a b. a ≢ b) c.args.params.now c.loop-i.i c.index-params-i.result c.bytes.result.now c.loop-i-test.true c.index-params-i.is c.bytes.ensures h))
