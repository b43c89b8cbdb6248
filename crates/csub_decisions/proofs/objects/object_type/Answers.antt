use Rattle.std.proofs.Common.{◌∙◌, map}
use Rattle.csub_semantics.specs.Syntax.{local_tree}
use Rattle.csub_decisions.proofs.ValidObjects.{found_first, found_later}
use Rattle.csub_decisions.proofs.objects.object_type.Goals as goal

pub returns-in-Some : goal.returns-in-Some
returns-in-Some c =
    found_first c.args.function.now.params.items (map local_tree c.args.function.now.locals.items) c.args.name.now c.args.number _
    (rw c.deref.ensures.value at c.in-Some.ensures)

pub returns-in-None : goal.returns-in-None
returns-in-None c =
    (rw c.deref-in-None.ensures.value at c.local_type.ensures)
    ∙ found_later c.args.function.now.params.items (map local_tree c.args.function.now.locals.items) c.args.name.now c.args.number
    (rw c.deref.ensures.value at c.in-None.ensures)
