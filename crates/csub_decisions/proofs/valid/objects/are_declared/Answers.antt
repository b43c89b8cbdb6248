use Rattle.csub_decisions.proofs.ValidFrames.{AreDeclared-split}
use Rattle.csub_decisions.proofs.valid.objects.are_declared.Goals as goal

pub returns-then-are_parameters : goal.returns-then-are_parameters
returns-then-are_parameters c =
    let split = AreDeclared-split c.args.function.now in
    let numbers = c.are_parameters.ensures.0 c.if-are_parameters.true in (
      λ h. split.1 (rw c.deref.ensures.value at numbers, rw c.deref-then-are_parameters.ensures.value at (c.are_sized.ensures.0 h)),
      λ h. c.are_sized.ensures.1 (rw c.deref-then-are_parameters.ensures.value (split.0 h).1),
    )

pub returns-else-are_parameters : goal.returns-else-are_parameters
returns-else-are_parameters c =
    let split = AreDeclared-split c.args.function.now in
    (λ h. cc, λ h. c.are_parameters.ensures.1 (rw c.deref.ensures.value (split.0 h).0))
