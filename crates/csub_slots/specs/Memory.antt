-- The memory of slots.
use Rattle.std.specs.Prelude.{ℕ, ◌+◌, ◌*◌, min, List, Option, Some, None, slice_index_or, slice_set}
use Rattle.csub_semantics.specs.Memory.{Memory}
use Rattle.csub_flat.specs.Trees.{Form, FlatVariable, frame_slot, global_slot, referring_slot, FlatPart}
use Rattle.csub_slots.specs.Layout.{Slot, empty, holding, referring, slot_number}

-- a slot among all, with what is there
pub record FlatSpot : Type 0 where
  pub slot : ℕ
  pub form : Form

-- where the array is to which a slot refers, with so many elements as the slot says
abbrev pub behind : Form → Slot → Option FlatSpot
behind form empty = None
behind form (holding v) = None
behind form (referring at n) = Some (record { slot = at; form = record form { length = n } })

-- where a variable is, for the frame whose slots begin at a base: an array parameter stands where its slot refers to
abbrev pub flat_stand : ℕ → FlatVariable → List Slot → Option FlatSpot
flat_stand base (frame_slot s form) slots = Some (record { slot = base + s; form = form })
flat_stand base (global_slot s form) slots = Some (record { slot = s; form = form })
flat_stand base (referring_slot s form) slots = behind form (slice_index_or slots (base + s) empty)

-- the greatest number that a slot may have; a run has fewer slots by far
abbrev pub most_slot : ℕ
most_slot = 18446744073709551615

-- the greatest number of a slot to which another may refer; a run has fewer slots than that as well
abbrev pub most_referred : ℕ
most_referred = 4294967295

-- a part that begins so many slots behind a spot
abbrev pub part_at : FlatPart → FlatSpot → ℕ → FlatSpot
part_at p l n = record { slot = min (l.slot + n) most_slot; form = p.form }

-- slots, for acts of the frame whose slots begin at a base
abbrev pub flat : ℕ → Memory FlatVariable FlatPart FlatPart FlatSpot (List Slot)
flat base = record {
  stand = λ v slots. flat_stand base v slots;
  element = λ p l i. part_at p l (i * p.slots);
  member = λ p l. part_at p l p.slots;
  bound = λ l. l.form.length;
  kind = λ l. l.form.kind;
  read = λ l slots. slot_number (slice_index_or slots l.slot empty);
  write = λ l v slots. slice_set slots l.slot (holding v);
}

-- the same for what has been located, where a base says nothing more
abbrev pub spots : Memory FlatVariable FlatPart FlatPart FlatSpot (List Slot)
spots = flat 0
