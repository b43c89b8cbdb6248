use Rattle.std.proofs.Common.{ap}
use Rattle.csub_semantics.specs.Syntax.{local_tree}
use Rattle.csub_validity.specs.Valid.{AreOther}
use Rattle.csub_validity.proofs.LawsLists.{new_from_pairs}
use Rattle.csub_decisions.proofs.objects.locals_differ.Goals as goal

pub returns-then-not-is_new_local : goal.returns-then-not-is_new_local
returns-then-not-is_new_local c =
    let local = c.index-locals-i.result in
    (λ h. cc, λ h. c.if-not-is_new_local.ensures.1 (rw c.bytes.ensures (new_from_pairs local_tree AreOther c.args.locals.now c.loop-i.i local (local_tree local) c.loop-i-test.true c.index-locals-i.is (ap local_tree c.index-locals-i.is) h)))
