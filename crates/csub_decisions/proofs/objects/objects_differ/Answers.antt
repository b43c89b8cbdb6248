use Rattle.csub_decisions.proofs.ValidObjects.{objects_apart}
use Rattle.csub_decisions.proofs.objects.objects_differ.Goals as goal

pub returns-then-params_differ : goal.returns-then-params_differ
returns-then-params_differ c =
    let split = objects_apart c.args.function.now.params.items c.args.function.now.locals.items in
    let params = rw c.deref.ensures.value at (c.params_differ.ensures.0 c.if-params_differ.true) in (
      λ h. split.1 (params, rw (c.deref-then-params_differ.ensures.value, c.deref-then-params_differ-2.ensures.value) at (c.are_new.ensures.0 h)),
      λ h. c.are_new.ensures.1 (rw (c.deref-then-params_differ.ensures.value, c.deref-then-params_differ-2.ensures.value) (split.0 h).1),
    )

pub returns-else-params_differ : goal.returns-else-params_differ
returns-else-params_differ c =
    let split = objects_apart c.args.function.now.params.items c.args.function.now.locals.items in
    (λ h. cc, λ h. c.params_differ.ensures.1 (rw c.deref.ensures.value (split.0 h).0))
