use Rattle.std.proofs.Common.{◌≡◌, ◌<◌, ◌+◌, ◌-◌, length, ap, arith}
use Rattle.csub_flat.specs.Frames.{as_object}
use Rattle.csub_flat.proofs.Passing.{places_none, places_all, places_more, room_before}
use Rattle.csub_flat.proofs.frame.add_params.Goals as goal

pub loop-i-init : goal.loop-i-init
loop-i-init c = places_none as_object c.args.params.now _ c.args.behind _ (omega arith)

pub loop-i-preserved : goal.loop-i-preserved
loop-i-preserved c =
    let next : c.loop-i.i - 1 + 1 ≡ c.loop-i.i = let some = c.loop-i-test.true in omega arith in
    let inside : c.loop-i.i - 1 < length c.args.params.now = let some = c.loop-i-test.true in let most = c.loop-i.auto.i in omega arith in
    places_more as_object c.args.params.now c.loop-i.i (c.loop-i.i - 1) c.index-params-i.result next inside c.index-params-i.is
    c.loop-i.slot c.args.behind _ c.args.slots.now c.loop-i.slots c.put_slot.new.slots c.loop-i.invariant c.requires.room
    (ap (λ n. c.loop-i.slot - n) c.slots_of-slot.ensures) c.in_ok-put_slot.ensures

pub slots_of-slot-requires : goal.slots_of-slot-requires
slots_of-slot-requires c =
    let next : c.loop-i.i - 1 + 1 ≡ c.loop-i.i = let some = c.loop-i-test.true in omega arith in
    let inside : c.loop-i.i - 1 < length c.args.params.now = let some = c.loop-i-test.true in let most = c.loop-i.auto.i in omega arith in
    let room = room_before as_object c.args.params.now c.loop-i.i (c.loop-i.i - 1) c.index-params-i.result next inside c.index-params-i.is
    c.loop-i.slot c.args.behind c.args.slots.now c.loop-i.slots c.loop-i.invariant c.requires.room in
    let sum = c.loop-i.invariant.size in
    let few = c.requires.small in
    omega arith

pub overflow_sub-slot : goal.overflow_sub-slot
overflow_sub-slot c =
    let next : c.loop-i.i - 1 + 1 ≡ c.loop-i.i = let some = c.loop-i-test.true in omega arith in
    let inside : c.loop-i.i - 1 < length c.args.params.now = let some = c.loop-i-test.true in let most = c.loop-i.auto.i in omega arith in
    let room = room_before as_object c.args.params.now c.loop-i.i (c.loop-i.i - 1) c.index-params-i.result next inside c.index-params-i.is
    c.loop-i.slot c.args.behind c.args.slots.now c.loop-i.slots c.loop-i.invariant c.requires.room in
    let width = c.slots_of-slot.ensures in
    omega arith

pub returns : goal.returns
returns c = places_all as_object c.args.params.now c.loop-i.i c.loop-i.slot c.args.behind c.args.slots.now c.loop-i.slots (omega (arith, c.loop-i-test.false)) c.loop-i.invariant
