use Rattle.std.proofs.Common.{◌≡◌, ◌≤◌, ◌+◌, ◌++◌, map, drop, length, vec_len, vec_capacity}
use Rattle.csub_semantics.specs.Types.{global_tree}
use Rattle.csub_slots.specs.Begins.{opening_slots}
use Rattle.csub_slots.specs.Seen.{slot_seen}
use Rattle.csub_slots.proofs.begin.open_globals.Given as goal

abbrev pub invariant-loop-global : goal.invariant-loop-global
invariant-loop-global l = record {
  items : map slot_seen l.slots.items ++ opening_slots (map global_tree (drop l.global-index l.globals)) ≡ map slot_seen l.fn.slots.items ++ opening_slots (map global_tree l.globals);
  len : vec_len l.slots + length (opening_slots (map global_tree (drop l.global-index l.globals))) ≡ vec_len l.fn.slots + length (opening_slots (map global_tree l.globals));
  capacity : vec_capacity l.fn.slots ≤ vec_capacity l.slots;
}
