-- What a slot, a spot and a way out of the code stand for.
use Rattle.csub_semantics.specs.Points.{ExitTree, next, on_true, on_false}
use Rattle.csub_slots.specs.Layout as the
use Rattle.csub_slots.specs.declared.slot.Slot.{Slot}
use Rattle.csub_slots.specs.declared.slot.Slot.TheVariants.{Empty, Holding, Referring}
use Rattle.csub_slots.specs.declared.spot.Spot.{Spot}
use Rattle.csub_slots.specs.declared.act.PlainExit.{PlainExit}
use Rattle.csub_slots.specs.declared.act.PlainExit.TheVariants.{Next, True, False}
use Rattle.csub_slots.specs.Memory.{FlatSpot}
use Rattle.csub_flat.specs.Seen.{form_seen}

abbrev pub slot_seen : Slot → the.Slot
slot_seen Empty = the.empty
slot_seen (Holding v) = the.holding v
slot_seen (Referring at n) = the.referring at n

abbrev pub spot_seen : Spot → FlatSpot
spot_seen l = record { slot = l.slot; form = form_seen l.form }

abbrev pub exit_seen : PlainExit → ExitTree
exit_seen Next = next
exit_seen True = on_true
exit_seen False = on_false
