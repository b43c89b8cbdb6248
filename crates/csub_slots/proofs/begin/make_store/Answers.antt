use Rattle.std.proofs.Common.{◌≡◌, ◌∙◌, ap, List, [], ◌++◌, replicate, drop, map, rules, arith}
use Rattle.csub_semantics.specs.Types.{global_tree}
use Rattle.csub_slots.specs.Layout as layout
use Rattle.csub_slots.specs.Begins.{opening_slots}
use Rattle.csub_slots.specs.declared.slot.Slot.{Slot}
use Rattle.csub_slots.specs.Seen.{slot_seen}
use Rattle.csub_slots.proofs.Fills.{same_state}
use Rattle.csub_slots.proofs.begin.make_store.Goals as goal

pub open_globals-requires : goal.open_globals-requires
open_globals-requires c =
    let globals = c.requires.globals in
    let len = c.in_ok-slots.ensures.len in
    let exact = c.in_ok-slots.ensures.exact in
    omega arith

pub grow-requires : goal.grow-requires
grow-requires c =
    let globals = c.requires.globals in
    let first = c.requires.first in
    let len = c.in_ok-slots.ensures.len in
    let exact = c.in_ok-slots.ensures.exact in
    let opened = c.open_globals.ensures.len in
    let capacity = c.open_globals.ensures.capacity in
    omega arith

pub returns-clause-state : goal.returns-clause-state
returns-clause-state c =
    let input : c.in_ok-copy.copy.items ≡ c.args.input.now = search rules in
    same_state (drop 0 c.in_ok-copy.copy.items) c.args.input.now c.in_ok-output.output.items [] (map slot_seen c.grow.new.slots.items) _
    input c.in_ok-output.ensures.items
    (c.grow.ensures.items
    ∙ ap (λ (xs : List layout.Slot). xs ++ replicate c.args.first layout.empty) (c.open_globals.ensures.items ∙ ap (λ (xs : List Slot). map slot_seen xs ++ opening_slots (map global_tree c.args.globals.now)) c.in_ok-slots.ensures.items))
