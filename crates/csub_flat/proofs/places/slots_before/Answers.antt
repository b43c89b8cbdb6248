use Rattle.csub_objects.specs.Meaning.{type_tree}
use Rattle.csub_flat.proofs.Members.{uncapped}
use Rattle.csub_flat.proofs.places.slots_before.Goals as goal

pub returns-in-Some : goal.returns-in-Some
returns-in-Some c = (uncapped c.args.name.now (type_tree c.args.ctype.now) c.in-Some.before c.requires (rw c.bytes.ensures at c.in-Some.ensures.some)).0
