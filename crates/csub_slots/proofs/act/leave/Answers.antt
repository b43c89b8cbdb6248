use Rattle.std.proofs.Common.{◌∙◌, ap, map, List}
use Rattle.csub_slots.specs.Layout as layout
use Rattle.csub_slots.specs.Acts.{FlatStore}
use Rattle.csub_slots.specs.Seen.{slot_seen}
use Rattle.csub_slots.specs.States.{state_of}
use Rattle.csub_slots.proofs.Fills.{map_take}
use Rattle.csub_slots.proofs.act.leave.Goals as goal

pub returns-clause-value : goal.returns-clause-value
returns-clause-value c =
    ap (λ (cells : List layout.Slot). let s : FlatStore = record (state_of c.args.store.now) { cells = cells } in s)
    (ap (map slot_seen) c.truncate.ensures.items ∙ map_take slot_seen c.args.base c.args.store.now.slots.items)
