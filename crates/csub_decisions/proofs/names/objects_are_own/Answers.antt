use Rattle.csub_validity.specs.Valid.{HasOwnNames}
use Rattle.csub_decisions.proofs.ValidTags.{OfObjects-split}
use Rattle.csub_decisions.proofs.names.objects_are_own.Goals as goal

pub returns : goal.returns
returns c =
    let params = rw c.deref.ensures.value at c.members_are_own.ensures in
    let locals = rw c.deref-2.ensures.value at c.locals_are_own.ensures in
    (OfObjects-split HasOwnNames c.args.function.now).1 (params, locals)
