use Rattle.std.proofs.Common.{◌∙◌}
use Rattle.csub_validity.specs.Valid.{objects_of}
use Rattle.csub_flat.specs.Frames.{place_in}
use Rattle.csub_flat.specs.Scopes.{function_at}
use Rattle.csub_flat.proofs.Lookups.{slot_found, slot_missing}
use Rattle.csub_flat.proofs.flatten.object_slot.Goals as goal

pub returns-in-Some : goal.returns-in-Some
returns-in-Some c =
    slot_found (place_in (objects_of (function_at c.args.scope)) c.args.name.now c.args.number) c.in-Some.slot
    (c.in-Some.ensures ∙ c.args.scope.placed.slots c.args.name.now c.args.number)

pub returns-in-None : goal.returns-in-None
returns-in-None c =
    slot_missing (place_in (objects_of (function_at c.args.scope)) c.args.name.now c.args.number)
    (c.in-None.ensures ∙ c.args.scope.placed.slots c.args.name.now c.args.number)
