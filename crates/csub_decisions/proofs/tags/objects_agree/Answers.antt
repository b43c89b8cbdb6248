use Rattle.csub_decisions.specs.Checks.{tree_of, declared_structs, AllAgree}
use Rattle.csub_decisions.proofs.ValidTags.{OfObjects-split}
use Rattle.csub_decisions.proofs.tags.objects_agree.Goals as goal

pub returns-then-members_agree : goal.returns-then-members_agree
returns-then-members_agree c =
    let split = OfObjects-split (AllAgree (declared_structs (tree_of c.args.program))) c.args.function.now in
    let params = rw c.deref.ensures.value at (c.members_agree.ensures.0 c.if-members_agree.true) in
    let locals = rw c.deref-then-members_agree.ensures.value at c.locals_agree.ensures in
    (λ h. split.1 (params, locals.0 h), λ h. locals.1 (split.0 h).1)

pub returns-else-members_agree : goal.returns-else-members_agree
returns-else-members_agree c =
    let split = OfObjects-split (AllAgree (declared_structs (tree_of c.args.program))) c.args.function.now in
    (λ h. cc, λ h. c.members_agree.ensures.1 (rw c.deref.ensures.value (split.0 h).0))
