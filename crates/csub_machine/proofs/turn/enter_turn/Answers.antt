use Rattle.std.proofs.Common.{◌≡◌, ◌≤◌, ◌+◌, ◌*◌, ℕ, ap, sym, subst, length, rules, arith}
use Rattle.std.proofs.lemmas.List.{length-map}
use Rattle.csub_semantics.specs.declared.status.Status.TheVariants.{Trap}
use Rattle.csub_semantics.specs.Syntax.{program_tree}
use Rattle.csub_flat.specs.declared.program.Sizes.{Sizes}
use Rattle.csub_flat.specs.Trees.{enters_callee}
use Rattle.csub_flat.specs.Seen.{call_seen}
use Rattle.csub_slots.specs.Seen.{slot_seen}
use Rattle.csub_slots.specs.States.{state_of, FitsMost}
use Rattle.csub_slots.proofs.LawsBounds.{fits_most}
use Rattle.csub_machine.proofs.Turns.{lives_room, can_act, ends_on, pushes_on}
use Rattle.csub_machine.proofs.turn.enter_turn.Goals as goal

pub enter_call-requires-clause-room : goal.enter_call-requires-clause-room
enter_call-requires-clause-room c =
    let P = program_tree c.args.program.now in
    let below = c.args.frames.now.below in
    let count : c.len.result ≡ length below.items = search rules in
    let slots = length-map c.args.store.now.slots.items slot_seen in
    let room = lives_room P c.args.flat.now.sizes.most c.requires.copies.most c.args.frames.now _ c.requires.frames in
    let globals = c.requires.copies.globals in
    let a : length c.args.store.now.slots.items ≤ c.args.flat.now.sizes.globals + (length below.items + 1) * c.args.flat.now.sizes.most = omega arith in
    subst (λ (k : ℕ). length c.args.store.now.slots.items ≤ c.args.store.now.sizes.globals + (k + 1) * c.args.store.now.sizes.most) (sym count)
    (subst (λ (z : Sizes). length c.args.store.now.slots.items ≤ z.globals + (length below.items + 1) * z.most) (sym c.requires.sizes) a)

pub enter_call-requires-clause-size : goal.enter_call-requires-clause-size
enter_call-requires-clause-size c =
    let P = program_tree c.args.program.now in
    let k = c.requires.copy in
    let d = enters_callee (call_seen c.args.call.now) in
    let fits : FitsMost c.args.store.now.sizes.most d = subst (λ (z : Sizes). FitsMost z.most d) (sym c.requires.sizes) (fits_most P k.function c.args.flat.now.sizes.most c.requires.graph.valid c.requires.copies.most k.label d k.fits k.copy) in
    fits.0

pub enter_call-requires-clause-args : goal.enter_call-requires-clause-args
enter_call-requires-clause-args c =
    let P = program_tree c.args.program.now in
    let k = c.requires.copy in
    let d = enters_callee (call_seen c.args.call.now) in
    let fits : FitsMost c.args.flat.now.sizes.most d = fits_most P k.function c.args.flat.now.sizes.most c.requires.graph.valid c.requires.copies.most k.label d k.fits k.copy in
    fits.1

pub enter_call-requires-clause-values : goal.enter_call-requires-clause-values
enter_call-requires-clause-values c =
    let P = program_tree c.args.program.now in
    let k = c.requires.copy in
    let d = enters_callee (call_seen c.args.call.now) in
    let fits : FitsMost c.args.flat.now.sizes.most d = fits_most P k.function c.args.flat.now.sizes.most c.requires.graph.valid c.requires.copies.most k.label d k.fits k.copy in
    fits.2

pub returns-in-Err-clause-moves : goal.returns-in-Err-clause-moves
returns-in-Err-clause-moves c s like =
    let P = program_tree c.args.program.now in
    let counted : c.len.result ≡ length c.args.frames.now.below.items = search rules in
    ends_on P c.args.frames.now _ (c.len.result + 1) c.requires.frames (can_act P c.requires.graph.valid c.args.flat.now c.requires.copies c.args.frames.now _ c.requires.frames) (enters_callee (call_seen c.args.call.now)) c.requires.copy s (state_of c.args.store.now) (ap (λ j. j + 1) counted) like
    (Trap c.in-Err.trap) (state_of c.enter_call.new.store) c.in-Err.ensures.value

pub returns-in-Ok-clause-moves : goal.returns-in-Ok-clause-moves
returns-in-Ok-clause-moves c s like =
    let P = program_tree c.args.program.now in
    let counted : c.len.result ≡ length c.args.frames.now.below.items = search rules in
    pushes_on P c.args.frames.now _ (c.len.result + 1) c.requires.frames (can_act P c.requires.graph.valid c.args.flat.now c.requires.copies c.args.frames.now _ c.requires.frames) (enters_callee (call_seen c.args.call.now)) c.requires.copy s (state_of c.args.store.now) (ap (λ j. j + 1) counted) like
    c.args.call.now.entry c.in-Ok.begin (state_of c.enter_call.new.store) c.in-Ok.ensures.value c.push_frame.new.frames c.push_frame.ensures.top c.push_frame.ensures.below
