use Rattle.std.proofs.Common.{sym}
use Rattle.csub_objects.specs.Meaning.{type_tree}
use Rattle.csub_semantics.specs.Trees.{place_tree}
use Rattle.csub_flat.specs.Scopes.{globals_at, function_at}
use Rattle.csub_flat.proofs.LawsSized.{place_stands, stands_few}
use Rattle.csub_flat.proofs.flatten.element_part.Goals as goal

pub slots_of-slots-requires : goal.slots_of-slots-requires
slots_of-slots-requires c =
    stands_few (type_tree c.in-Some.found.now)
    (place_stands (globals_at c.args.scope) (function_at c.args.scope) (place_tree c.args.element.now) (type_tree c.in-Some.found.now) c.requires (sym c.in-Some.ensures.ctype))
