use Rattle.std.proofs.Common.{sym}
use Rattle.csub_objects.specs.Meaning.{type_tree}
use Rattle.csub_semantics.specs.Trees.{place_tree}
use Rattle.csub_flat.specs.Scopes.{globals_at, function_at}
use Rattle.csub_flat.proofs.LawsSized.{place_stands}
use Rattle.csub_flat.proofs.flatten.member_part.Goals as goal

pub slots_before-requires : goal.slots_before-requires
slots_before-requires c =
    place_stands (globals_at c.args.scope) (function_at c.args.scope) (place_tree c.args.whole.now) (type_tree c.in-Some.ctype.now) c.requires (sym c.in-Some.ensures.ctype)
