use Rattle.csub_decisions.specs.Checks.{struct_tree, AgreesIn}
use Rattle.csub_decisions.proofs.ValidTags.{OfObjects-split}
use Rattle.csub_decisions.proofs.tags.agrees_in_objects.Goals as goal

pub returns-then-agrees_among : goal.returns-then-agrees_among
returns-then-agrees_among c =
    let split = OfObjects-split (AgreesIn (struct_tree c.args.tag.now c.args.members.now)) c.args.function.now in
    let params = rw c.deref.ensures.value at (c.agrees_among.ensures.0 c.if-agrees_among.true) in
    let locals = rw c.deref-then-agrees_among.ensures.value at c.agrees_in_locals.ensures in
    (λ h. split.1 (params, locals.0 h), λ h. locals.1 (split.0 h).1)

pub returns-else-agrees_among : goal.returns-else-agrees_among
returns-else-agrees_among c =
    let split = OfObjects-split (AgreesIn (struct_tree c.args.tag.now c.args.members.now)) c.args.function.now in
    (λ h. cc, λ h. c.agrees_among.ensures.1 (rw c.deref.ensures.value (split.0 h).0))
