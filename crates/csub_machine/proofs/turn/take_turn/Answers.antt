use Rattle.std.proofs.Common.{ℤ, List, All, map, ◌∷◌, w64, ◌≡◌, ◌+◌, ◌∙◌, ap, sym, subst, refl, pos, Some, if◌then◌else◌, length, rules}
use Rattle.std.specs.Ordering.{int_eq}
use Rattle.std.proofs.lemmas.Int.{to_z-of_z}
use mir.Val.{SFits}
use Rattle.csub_semantics.specs.Points.{ExitTree, next, on_true, on_false}
use Rattle.csub_semantics.specs.Flows.{flow_of}
use Rattle.csub_semantics.specs.Acts.{Store as Held}
use Rattle.csub_semantics.specs.Runs.{Frame as Standing, exit_at, cross, turn}
use Rattle.csub_semantics.specs.declared.status.Status.TheVariants.{Trap, Exit}
use Rattle.csub_semantics.specs.Syntax.{program_tree}
use Rattle.csub_flat.specs.Sites.{place_of}
use Rattle.csub_flat.specs.Ways.{cases_of}
use Rattle.csub_flat.specs.Copies.{IsCopyAt}
use Rattle.csub_flat.specs.Seen.{expr_seen, label_seen, write_seen}
use Rattle.csub_flat.specs.declared.flat.FlatWrite.{FlatWrite}
use Rattle.csub_flat.specs.declared.flat.FlatLabel.{FlatLabel}
use Rattle.csub_semantics.specs.Memory.{value, trapped, low_byte}
use Rattle.csub_slots.specs.Acts.{flat_act, flat_begins, leaves}
use Rattle.csub_slots.specs.Seen.{exit_seen}
use Rattle.csub_slots.specs.States.{state_of, FewInWrite, FitsMost}
use Rattle.csub_slots.proofs.LawsBounds.{fits_most}
use Rattle.csub_machine.specs.Standings.{frame_of, standing_of, StopsWith, Crosses}
use Rattle.csub_machine.proofs.Turns.{row_at, can_act, ends_on, leaves_on, gives_on}
use Rattle.csub_machine.proofs.Direct.{done, done_not, tested, tested_not, chosen, chosen_not, answered, answered_not, halted, halted_not, begun, begun_not}
use Rattle.csub_machine.proofs.turn.take_turn.Goals as goal

pub eval_effect-requires : goal.eval_effect-requires
eval_effect-requires c =
    let P = program_tree c.args.program.now in
    let n = c.args.frames.now.top.point in
    let copies = c.requires.copies in
    let k = (row_at P c.args.flat.now copies n c.index-point.result.now c.requires.frames.top c.index-point.ensures).copy in
    let fits : FitsMost c.args.flat.now.sizes.most (label_seen c.index-point.result.now.label) = fits_most P k.function c.args.flat.now.sizes.most c.requires.graph.valid copies.most k.label (label_seen c.index-point.result.now.label) k.fits k.copy in
    subst (λ (l : FlatLabel). FitsMost c.args.flat.now.sizes.most (label_seen l)) c.in-Eval.is fits

pub eval_test-requires : goal.eval_test-requires
eval_test-requires c =
    let P = program_tree c.args.program.now in
    let n = c.args.frames.now.top.point in
    let copies = c.requires.copies in
    let k = (row_at P c.args.flat.now copies n c.index-point.result.now c.requires.frames.top c.index-point.ensures).copy in
    let fits : FitsMost c.args.flat.now.sizes.most (label_seen c.index-point.result.now.label) = fits_most P k.function c.args.flat.now.sizes.most c.requires.graph.valid copies.most k.label (label_seen c.index-point.result.now.label) k.fits k.copy in
    subst (λ (l : FlatLabel). FitsMost c.args.flat.now.sizes.most (label_seen l)) c.in-Branch.is fits

pub eval_test-requires-in-Switch : goal.eval_test-requires-in-Switch
eval_test-requires-in-Switch c =
    let P = program_tree c.args.program.now in
    let n = c.args.frames.now.top.point in
    let copies = c.requires.copies in
    let k = (row_at P c.args.flat.now copies n c.index-point.result.now c.requires.frames.top c.index-point.ensures).copy in
    let fits : FitsMost c.args.flat.now.sizes.most (label_seen c.index-point.result.now.label) = fits_most P k.function c.args.flat.now.sizes.most c.requires.graph.valid copies.most k.label (label_seen c.index-point.result.now.label) k.fits k.copy in
    subst (λ (l : FlatLabel). FitsMost c.args.flat.now.sizes.most (label_seen l)) c.in-Switch.is fits

pub returns-in-Next-clause-moves : goal.returns-in-Next-clause-moves
returns-in-Next-clause-moves c s like =
    let P = program_tree c.args.program.now in
    let n = c.args.frames.now.top.point in
    let copies = c.requires.copies in
    let k = (row_at P c.args.flat.now copies n c.index-point.result.now c.requires.frames.top c.index-point.ensures).copy in
    let top = c.args.frames.now.top in
    let cnt = length c.args.frames.now.below.items + 1 in
    let same = ap (λ (l : FlatLabel). flat_act (label_seen l) cnt top.base top.result (state_of c.args.store.now)) c.in-Next.is in
    let acts = same in
    leaves_on P c.args.frames.now _ cnt c.requires.frames (can_act P c.requires.graph.valid c.args.flat.now copies c.args.frames.now _ c.requires.frames) (label_seen c.index-point.result.now.label) k s (state_of c.args.store.now) refl like next top.result (state_of c.args.store.now) acts
    _ c.leave_by.result c.leave_by.ensures.moves refl c.leave_by.ensures.point c.leave_by.ensures.function c.leave_by.ensures.base

pub returns-in-Err-clause-moves : goal.returns-in-Err-clause-moves
returns-in-Err-clause-moves c s like =
    let P = program_tree c.args.program.now in
    let n = c.args.frames.now.top.point in
    let copies = c.requires.copies in
    let k = (row_at P c.args.flat.now copies n c.index-point.result.now c.requires.frames.top c.index-point.ensures).copy in
    let top = c.args.frames.now.top in
    let cnt = length c.args.frames.now.below.items + 1 in
    let same = ap (λ (l : FlatLabel). flat_act (label_seen l) cnt top.base top.result (state_of c.args.store.now)) c.in-Eval.is in
    let acts = same ∙ done_not (expr_seen c.in-Eval.expr) cnt top.base top.result (state_of c.args.store.now) (state_of c.eval_effect.new.store) c.in-Err.trap c.in-Err.ensures.value in
    ends_on P c.args.frames.now _ cnt c.requires.frames (can_act P c.requires.graph.valid c.args.flat.now copies c.args.frames.now _ c.requires.frames) (label_seen c.index-point.result.now.label) k s (state_of c.args.store.now) refl like (Trap c.in-Err.trap) (state_of c.eval_effect.new.store) acts

pub returns-in-Ok-clause-moves : goal.returns-in-Ok-clause-moves
returns-in-Ok-clause-moves c s like =
    let P = program_tree c.args.program.now in
    let n = c.args.frames.now.top.point in
    let copies = c.requires.copies in
    let k = (row_at P c.args.flat.now copies n c.index-point.result.now c.requires.frames.top c.index-point.ensures).copy in
    let top = c.args.frames.now.top in
    let cnt = length c.args.frames.now.below.items + 1 in
    let same = ap (λ (l : FlatLabel). flat_act (label_seen l) cnt top.base top.result (state_of c.args.store.now)) c.in-Eval.is in
    let acts = same ∙ done (expr_seen c.in-Eval.expr) cnt top.base top.result (state_of c.args.store.now) (state_of c.eval_effect.new.store) _ c.in-Ok.ensures.value in
    leaves_on P c.args.frames.now _ cnt c.requires.frames (can_act P c.requires.graph.valid c.args.flat.now copies c.args.frames.now _ c.requires.frames) (label_seen c.index-point.result.now.label) k s (state_of c.args.store.now) refl like next top.result (state_of c.eval_effect.new.store) acts
    _ c.leave_by-in-Ok.result c.leave_by-in-Ok.ensures.moves refl c.leave_by-in-Ok.ensures.point c.leave_by-in-Ok.ensures.function c.leave_by-in-Ok.ensures.base

pub returns-in-Err-eval_test-clause-moves : goal.returns-in-Err-eval_test-clause-moves
returns-in-Err-eval_test-clause-moves c s like =
    let P = program_tree c.args.program.now in
    let n = c.args.frames.now.top.point in
    let copies = c.requires.copies in
    let k = (row_at P c.args.flat.now copies n c.index-point.result.now c.requires.frames.top c.index-point.ensures).copy in
    let top = c.args.frames.now.top in
    let cnt = length c.args.frames.now.below.items + 1 in
    let same = ap (λ (l : FlatLabel). flat_act (label_seen l) cnt top.base top.result (state_of c.args.store.now)) c.in-Branch.is in
    let acts = same ∙ tested_not (expr_seen c.in-Branch.expr) cnt top.base top.result (state_of c.args.store.now) (state_of c.eval_test.new.store) c.in-Err-eval_test.trap c.in-Err-eval_test.ensures.value in
    ends_on P c.args.frames.now _ cnt c.requires.frames (can_act P c.requires.graph.valid c.args.flat.now copies c.args.frames.now _ c.requires.frames) (label_seen c.index-point.result.now.label) k s (state_of c.args.store.now) refl like (Trap c.in-Err-eval_test.trap) (state_of c.eval_test.new.store) acts

pub returns-in-Ok-eval_test-clause-moves : goal.returns-in-Ok-eval_test-clause-moves
returns-in-Ok-eval_test-clause-moves c s like =
    let P = program_tree c.args.program.now in
    let n = c.args.frames.now.top.point in
    let copies = c.requires.copies in
    let k = (row_at P c.args.flat.now copies n c.index-point.result.now c.requires.frames.top c.index-point.ensures).copy in
    let top = c.args.frames.now.top in
    let cnt = length c.args.frames.now.below.items + 1 in
    let same = ap (λ (l : FlatLabel). flat_act (label_seen l) cnt top.base top.result (state_of c.args.store.now)) c.in-Branch.is in
    let v = c.in-Ok-eval_test.value in
    let fits : SFits w64 v = search rules in
    let along : exit_seen c.exit_by.result ≡ (if int_eq v (pos 0) then on_false else on_true) = subst (λ (w : ℤ). exit_seen c.exit_by.result ≡ (if int_eq w (pos 0) then on_false else on_true)) (to_z-of_z w64 v fits) c.exit_by.ensures in
    let acts =
    same ∙ tested (expr_seen c.in-Branch.expr) cnt top.base top.result (state_of c.args.store.now) (state_of c.eval_test.new.store) v c.in-Ok-eval_test.ensures.value
    ∙ ap (λ (x : ExitTree). leaves x top.result (state_of c.eval_test.new.store)) (sym along) in
    leaves_on P c.args.frames.now _ cnt c.requires.frames (can_act P c.requires.graph.valid c.args.flat.now copies c.args.frames.now _ c.requires.frames) (label_seen c.index-point.result.now.label) k s (state_of c.args.store.now) refl like (exit_seen c.exit_by.result) top.result (state_of c.eval_test.new.store) acts
    _ c.leave_by-in-Ok-eval_test.result c.leave_by-in-Ok-eval_test.ensures.moves refl c.leave_by-in-Ok-eval_test.ensures.point c.leave_by-in-Ok-eval_test.ensures.function c.leave_by-in-Ok-eval_test.ensures.base

pub returns-in-Err-eval_test-2-clause-moves : goal.returns-in-Err-eval_test-2-clause-moves
returns-in-Err-eval_test-2-clause-moves c s like =
    let P = program_tree c.args.program.now in
    let n = c.args.frames.now.top.point in
    let copies = c.requires.copies in
    let k = (row_at P c.args.flat.now copies n c.index-point.result.now c.requires.frames.top c.index-point.ensures).copy in
    let top = c.args.frames.now.top in
    let cnt = length c.args.frames.now.below.items + 1 in
    let same = ap (λ (l : FlatLabel). flat_act (label_seen l) cnt top.base top.result (state_of c.args.store.now)) c.in-Switch.is in
    let acts = same ∙ chosen_not (expr_seen c.in-Switch.expr) cnt top.base top.result (state_of c.args.store.now) (state_of c.eval_test-in-Switch.new.store) c.in-Err-eval_test-2.trap c.in-Err-eval_test-2.ensures.value in
    ends_on P c.args.frames.now _ cnt c.requires.frames (can_act P c.requires.graph.valid c.args.flat.now copies c.args.frames.now _ c.requires.frames) (label_seen c.index-point.result.now.label) k s (state_of c.args.store.now) refl like (Trap c.in-Err-eval_test-2.trap) (state_of c.eval_test-in-Switch.new.store) acts

pub returns-in-Ok-eval_test-2-clause-moves : goal.returns-in-Ok-eval_test-2-clause-moves
returns-in-Ok-eval_test-2-clause-moves c s like =
    let P = program_tree c.args.program.now in
    let n = c.args.frames.now.top.point in
    let copies = c.requires.copies in
    let k = (row_at P c.args.flat.now copies n c.index-point.result.now c.requires.frames.top c.index-point.ensures).copy in
    let top = c.args.frames.now.top in
    let cnt = length c.args.frames.now.below.items + 1 in
    let same = ap (λ (l : FlatLabel). flat_act (label_seen l) cnt top.base top.result (state_of c.args.store.now)) c.in-Switch.is in
    let v = c.in-Ok-eval_test-2.value in
    let fits : SFits w64 v = search rules in
    let Moved : ℤ → Type 0 = λ w. (below : List Standing) (t : Held) → let x = exit_at (cases_of P n) w in Crosses P (cross (frame_of P top) below x top.result t ((flow_of P).succ (place_of P n).function (place_of P n).point x)) c.choose_by.result (record { frames = frame_of P c.choose_by.new.top ∷ below; store = t }) in
    let acts = same ∙ chosen (expr_seen c.in-Switch.expr) cnt top.base top.result (state_of c.args.store.now) (state_of c.eval_test-in-Switch.new.store) v c.in-Ok-eval_test-2.ensures.value in
    gives_on P c.args.frames.now _ cnt c.requires.frames (can_act P c.requires.graph.valid c.args.flat.now copies c.args.frames.now _ c.requires.frames) (label_seen c.index-point.result.now.label) k s (state_of c.args.store.now) refl like v (state_of c.eval_test-in-Switch.new.store) acts
    _ c.choose_by.result (subst Moved (to_z-of_z w64 v fits) c.choose_by.ensures.moves) refl c.choose_by.ensures.point c.choose_by.ensures.function c.choose_by.ensures.base

pub eval_answer-requires : goal.eval_answer-requires
eval_answer-requires c =
    let P = program_tree c.args.program.now in
    let n = c.args.frames.now.top.point in
    let copies = c.requires.copies in
    let k = (row_at P c.args.flat.now copies n c.index-point.result.now c.requires.frames.top c.index-point.ensures).copy in
    let fits : FitsMost c.args.flat.now.sizes.most (label_seen c.index-point.result.now.label) = fits_most P k.function c.args.flat.now.sizes.most c.requires.graph.valid copies.most k.label (label_seen c.index-point.result.now.label) k.fits k.copy in
    subst (λ (l : FlatLabel). FitsMost c.args.flat.now.sizes.most (label_seen l)) c.in-Return.is fits

pub returns-in-Err-eval_answer-clause-moves : goal.returns-in-Err-eval_answer-clause-moves
returns-in-Err-eval_answer-clause-moves c s like =
    let P = program_tree c.args.program.now in
    let n = c.args.frames.now.top.point in
    let copies = c.requires.copies in
    let k = (row_at P c.args.flat.now copies n c.index-point.result.now c.requires.frames.top c.index-point.ensures).copy in
    let top = c.args.frames.now.top in
    let cnt = length c.args.frames.now.below.items + 1 in
    let same = ap (λ (l : FlatLabel). flat_act (label_seen l) cnt top.base top.result (state_of c.args.store.now)) c.in-Return.is in
    let acts = same ∙ answered_not (expr_seen c.in-Return.expr) cnt top.base top.result (state_of c.args.store.now) (state_of c.eval_answer.new.store) c.in-Return.kind c.in-Err-eval_answer.trap c.in-Err-eval_answer.ensures.value in
    ends_on P c.args.frames.now _ cnt c.requires.frames (can_act P c.requires.graph.valid c.args.flat.now copies c.args.frames.now _ c.requires.frames) (label_seen c.index-point.result.now.label) k s (state_of c.args.store.now) refl like (Trap c.in-Err-eval_answer.trap) (state_of c.eval_answer.new.store) acts

pub returns-in-Ok-eval_answer-clause-moves : goal.returns-in-Ok-eval_answer-clause-moves
returns-in-Ok-eval_answer-clause-moves c s like =
    let P = program_tree c.args.program.now in
    let n = c.args.frames.now.top.point in
    let copies = c.requires.copies in
    let k = (row_at P c.args.flat.now copies n c.index-point.result.now c.requires.frames.top c.index-point.ensures).copy in
    let top = c.args.frames.now.top in
    let cnt = length c.args.frames.now.below.items + 1 in
    let same = ap (λ (l : FlatLabel). flat_act (label_seen l) cnt top.base top.result (state_of c.args.store.now)) c.in-Return.is in
    let v = c.in-Ok-eval_answer.given in
    let fits : SFits w64 v = search rules in
    let Moved : ℤ → Type 0 = λ w. (below : List Standing) (t : Held) → Crosses P (cross (frame_of P top) below next (Some w) t ((flow_of P).succ (place_of P n).function (place_of P n).point next)) c.leave_by-in-Ok-eval_answer.result (record { frames = frame_of P c.leave_by-in-Ok-eval_answer.new.top ∷ below; store = t }) in
    let acts = same ∙ answered (expr_seen c.in-Return.expr) cnt top.base top.result (state_of c.args.store.now) (state_of c.eval_answer.new.store) c.in-Return.kind v c.in-Ok-eval_answer.ensures.value in
    leaves_on P c.args.frames.now _ cnt c.requires.frames (can_act P c.requires.graph.valid c.args.flat.now copies c.args.frames.now _ c.requires.frames) (label_seen c.index-point.result.now.label) k s (state_of c.args.store.now) refl like next (Some v) (state_of c.eval_answer.new.store) acts
    _ c.leave_by-in-Ok-eval_answer.result (subst Moved (to_z-of_z w64 v fits) c.leave_by-in-Ok-eval_answer.ensures.moves) refl c.leave_by-in-Ok-eval_answer.ensures.point c.leave_by-in-Ok-eval_answer.ensures.function c.leave_by-in-Ok-eval_answer.ensures.base

pub initialise-requires : goal.initialise-requires
initialise-requires c =
    let P = program_tree c.args.program.now in
    let n = c.args.frames.now.top.point in
    let copies = c.requires.copies in
    let k = (row_at P c.args.flat.now copies n c.index-point.result.now c.requires.frames.top c.index-point.ensures).copy in
    let fits : FitsMost c.args.flat.now.sizes.most (label_seen c.index-point.result.now.label) = fits_most P k.function c.args.flat.now.sizes.most c.requires.graph.valid copies.most k.label (label_seen c.index-point.result.now.label) k.fits k.copy in
    let own : All FewInWrite (map write_seen c.in-Init.steps.items) = subst (λ (l : FlatLabel). FitsMost c.args.flat.now.sizes.most (label_seen l)) c.in-Init.is fits in
    subst (λ (ws : List FlatWrite). All FewInWrite (map write_seen ws)) (sym c.deref.ensures.value) own

pub returns-in-Err-initialise-clause-moves : goal.returns-in-Err-initialise-clause-moves
returns-in-Err-initialise-clause-moves c s like =
    let P = program_tree c.args.program.now in
    let n = c.args.frames.now.top.point in
    let copies = c.requires.copies in
    let k = (row_at P c.args.flat.now copies n c.index-point.result.now c.requires.frames.top c.index-point.ensures).copy in
    let top = c.args.frames.now.top in
    let cnt = length c.args.frames.now.below.items + 1 in
    let same = ap (λ (l : FlatLabel). flat_act (label_seen l) cnt top.base top.result (state_of c.args.store.now)) c.in-Init.is in
    let made = subst (λ (ws : List FlatWrite). flat_begins top.base (map write_seen ws) (state_of c.args.store.now) ≡ trapped c.in-Err-initialise.trap (state_of c.initialise.new.store)) c.deref.ensures.value c.in-Err-initialise.ensures.value in
    let acts = same ∙ begun_not (map write_seen c.in-Init.steps.items) cnt top.base top.result (state_of c.args.store.now) (state_of c.initialise.new.store) c.in-Err-initialise.trap made in
    ends_on P c.args.frames.now _ cnt c.requires.frames (can_act P c.requires.graph.valid c.args.flat.now copies c.args.frames.now _ c.requires.frames) (label_seen c.index-point.result.now.label) k s (state_of c.args.store.now) refl like (Trap c.in-Err-initialise.trap) (state_of c.initialise.new.store) acts

pub returns-in-Ok-initialise-clause-moves : goal.returns-in-Ok-initialise-clause-moves
returns-in-Ok-initialise-clause-moves c s like =
    let P = program_tree c.args.program.now in
    let n = c.args.frames.now.top.point in
    let copies = c.requires.copies in
    let k = (row_at P c.args.flat.now copies n c.index-point.result.now c.requires.frames.top c.index-point.ensures).copy in
    let top = c.args.frames.now.top in
    let cnt = length c.args.frames.now.below.items + 1 in
    let same = ap (λ (l : FlatLabel). flat_act (label_seen l) cnt top.base top.result (state_of c.args.store.now)) c.in-Init.is in
    let made = subst (λ (ws : List FlatWrite). flat_begins top.base (map write_seen ws) (state_of c.args.store.now) ≡ value tt (state_of c.initialise.new.store)) c.deref.ensures.value c.in-Ok-initialise.ensures.value in
    let acts = same ∙ begun (map write_seen c.in-Init.steps.items) cnt top.base top.result (state_of c.args.store.now) (state_of c.initialise.new.store) made in
    leaves_on P c.args.frames.now _ cnt c.requires.frames (can_act P c.requires.graph.valid c.args.flat.now copies c.args.frames.now _ c.requires.frames) (label_seen c.index-point.result.now.label) k s (state_of c.args.store.now) refl like next top.result (state_of c.initialise.new.store) acts
    _ c.leave_by-in-Ok-initialise.result c.leave_by-in-Ok-initialise.ensures.moves refl c.leave_by-in-Ok-initialise.ensures.point c.leave_by-in-Ok-initialise.ensures.function c.leave_by-in-Ok-initialise.ensures.base

pub eval_test-requires-in-Halt : goal.eval_test-requires-in-Halt
eval_test-requires-in-Halt c =
    let P = program_tree c.args.program.now in
    let n = c.args.frames.now.top.point in
    let copies = c.requires.copies in
    let k = (row_at P c.args.flat.now copies n c.index-point.result.now c.requires.frames.top c.index-point.ensures).copy in
    let fits : FitsMost c.args.flat.now.sizes.most (label_seen c.index-point.result.now.label) = fits_most P k.function c.args.flat.now.sizes.most c.requires.graph.valid copies.most k.label (label_seen c.index-point.result.now.label) k.fits k.copy in
    subst (λ (l : FlatLabel). FitsMost c.args.flat.now.sizes.most (label_seen l)) c.in-Halt.is fits

pub returns-in-Err-eval_test-3-clause-moves : goal.returns-in-Err-eval_test-3-clause-moves
returns-in-Err-eval_test-3-clause-moves c s like =
    let P = program_tree c.args.program.now in
    let n = c.args.frames.now.top.point in
    let copies = c.requires.copies in
    let k = (row_at P c.args.flat.now copies n c.index-point.result.now c.requires.frames.top c.index-point.ensures).copy in
    let top = c.args.frames.now.top in
    let cnt = length c.args.frames.now.below.items + 1 in
    let same = ap (λ (l : FlatLabel). flat_act (label_seen l) cnt top.base top.result (state_of c.args.store.now)) c.in-Halt.is in
    let acts = same ∙ halted_not (expr_seen c.in-Halt.expr) cnt top.base top.result (state_of c.args.store.now) (state_of c.eval_test-in-Halt.new.store) c.in-Err-eval_test-3.trap c.in-Err-eval_test-3.ensures.value in
    ends_on P c.args.frames.now _ cnt c.requires.frames (can_act P c.requires.graph.valid c.args.flat.now copies c.args.frames.now _ c.requires.frames) (label_seen c.index-point.result.now.label) k s (state_of c.args.store.now) refl like (Trap c.in-Err-eval_test-3.trap) (state_of c.eval_test-in-Halt.new.store) acts

pub returns-in-Ok-eval_test-3-clause-moves : goal.returns-in-Ok-eval_test-3-clause-moves
returns-in-Ok-eval_test-3-clause-moves c s like =
    let P = program_tree c.args.program.now in
    let n = c.args.frames.now.top.point in
    let copies = c.requires.copies in
    let k = (row_at P c.args.flat.now copies n c.index-point.result.now c.requires.frames.top c.index-point.ensures).copy in
    let top = c.args.frames.now.top in
    let cnt = length c.args.frames.now.below.items + 1 in
    let same = ap (λ (l : FlatLabel). flat_act (label_seen l) cnt top.base top.result (state_of c.args.store.now)) c.in-Halt.is in
    let v = c.in-Ok-eval_test-3.value in
    let fits : SFits w64 v = search rules in
    let status = c.end_with.ensures ∙ ap (λ w. Exit (low_byte w)) (to_z-of_z w64 v fits) in
    let acts = same ∙ halted (expr_seen c.in-Halt.expr) cnt top.base top.result (state_of c.args.store.now) (state_of c.eval_test-in-Halt.new.store) v c.in-Ok-eval_test-3.ensures.value in
    subst (λ t. StopsWith (turn (flow_of P) (standing_of P c.args.frames.now s)) t (state_of c.eval_test-in-Halt.new.store)) (sym status)
    (ends_on P c.args.frames.now _ cnt c.requires.frames (can_act P c.requires.graph.valid c.args.flat.now copies c.args.frames.now _ c.requires.frames) (label_seen c.index-point.result.now.label) k s (state_of c.args.store.now) refl like (Exit (low_byte v)) (state_of c.eval_test-in-Halt.new.store) acts)

pub enter_turn-requires-clause-copy : goal.enter_turn-requires-clause-copy
enter_turn-requires-clause-copy c =
    let P = program_tree c.args.program.now in
    let n = c.args.frames.now.top.point in
    let copies = c.requires.copies in
    let k = (row_at P c.args.flat.now copies n c.index-point.result.now c.requires.frames.top c.index-point.ensures).copy in
    subst (λ (l : FlatLabel). IsCopyAt P n (label_seen l)) c.in-Call.is k

pub leave_turn-requires-clause-copy : goal.leave_turn-requires-clause-copy
leave_turn-requires-clause-copy c =
    let P = program_tree c.args.program.now in
    let n = c.args.frames.now.top.point in
    let copies = c.requires.copies in
    let k = (row_at P c.args.flat.now copies n c.index-point.result.now c.requires.frames.top c.index-point.ensures).copy in
    subst (λ (l : FlatLabel). IsCopyAt P n (label_seen l)) c.in-Exit.is k
