use Rattle.std.proofs.Common.{◌≡◌, ◌≤◌, ◌+◌, ◌++◌, map, drop, vec_len, vec_capacity}
use Rattle.csub_slots.specs.Layout as layout
use Rattle.csub_slots.specs.Seen.{slot_seen}
use Rattle.csub_slots.proofs.begin.push_numbers.Given as goal

abbrev pub invariant-loop-number : goal.invariant-loop-number
invariant-loop-number l = record {
  items : map slot_seen l.slots.items ++ map layout.holding (drop l.number-index l.numbers) ≡ map slot_seen l.fn.slots.items ++ map layout.holding l.numbers;
  len : vec_len l.slots ≡ vec_len l.fn.slots + l.number-index;
  capacity : vec_capacity l.fn.slots ≤ vec_capacity l.slots;
}
