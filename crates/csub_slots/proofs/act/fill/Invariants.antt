use Rattle.std.proofs.Common.{◌≡◌, ◌≤◌, length, map, drop}
use Rattle.csub_slots.specs.Acts.{flat_entered}
use Rattle.csub_flat.specs.Seen.{arg_seen}
use Rattle.csub_slots.specs.Seen.{slot_seen}
use Rattle.csub_slots.proofs.act.fill.Given as goal

abbrev pub invariant-loop-i : goal.invariant-loop-i
invariant-loop-i l = record {
  slots :
      flat_entered l.base (map arg_seen (drop l.i l.args)) (map slot_seen (drop l.i l.store.values.items)) (map slot_seen l.store.slots.items)
      ≡ flat_entered l.base (map arg_seen l.args) (map slot_seen l.fn.store.values.items) (map slot_seen l.fn.store.slots.items);
  count : l.base ≤ length l.store.slots.items;
  values : l.store.values.items ≡ l.fn.store.values.items;
  rest : drop l.store.place l.store.input.items ≡ drop l.fn.store.place l.fn.store.input.items;
  input : l.store.input.items ≡ l.fn.store.input.items;
  output : l.store.output.items ≡ l.fn.store.output.items;
  sizes : l.store.sizes ≡ l.fn.store.sizes;
}
