use Rattle.std.proofs.Common.{◌+◌, refl, length}
use Rattle.csub_semantics.specs.Syntax.{program_tree}
use Rattle.csub_flat.specs.Trees.{leaves_by}
use Rattle.csub_flat.specs.Seen.{variable_seen}
use Rattle.csub_slots.specs.States.{state_of}
use Rattle.csub_machine.proofs.Turns.{can_act, ends_on, pops_on}
use Rattle.csub_machine.proofs.turn.leave_turn.Goals as goal

pub returns-in-Err-clause-moves : goal.returns-in-Err-clause-moves
returns-in-Err-clause-moves c s like =
    let P = program_tree c.args.program.now in
    ends_on P c.args.frames.now _ (length c.args.frames.now.below.items + 1) c.requires.frames (can_act P c.requires.graph.valid c.args.flat.now c.requires.copies c.args.frames.now _ c.requires.frames) (leaves_by c.args.rule.now (variable_seen c.args.first.now)) c.requires.copy s (state_of c.args.store.now) refl like
    c.in-Err.status (state_of c.leave_function.new.store) c.in-Err.ensures.value

pub returns-in-Some-clause-moves : goal.returns-in-Some-clause-moves
returns-in-Some-clause-moves c s like =
    let P = program_tree c.args.program.now in
    pops_on P c.args.frames.now _ (length c.args.frames.now.below.items + 1) c.requires.frames (can_act P c.requires.graph.valid c.args.flat.now c.requires.copies c.args.frames.now _ c.requires.frames) (leaves_by c.args.rule.now (variable_seen c.args.first.now)) c.requires.copy s (state_of c.args.store.now) refl like
    c.in-Ok.given (state_of c.leave_function.new.store) c.in-Ok.ensures.value
    c.in-Some.frame c.pop.new.self.items c.in-Some.ensures.items _ c.resume.result (state_of c.resume.new.store) c.resume.ensures.moves refl c.resume.ensures.point c.resume.ensures.base
