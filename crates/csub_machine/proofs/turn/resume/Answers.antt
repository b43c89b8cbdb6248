use Rattle.std.proofs.Common.{ap}
use Rattle.csub_semantics.specs.Syntax.{program_tree}
use Rattle.csub_flat.specs.Seen.{call_seen, label_seen}
use Rattle.csub_slots.specs.States.{state_of}
use Rattle.csub_machine.proofs.Turns.{row_at, resumed}
use Rattle.csub_machine.proofs.turn.resume.Goals as goal

pub returns-clause-moves : goal.returns-clause-moves
returns-clause-moves c =
    let P = program_tree c.args.program.now in
    let n = c.args.top.now.point in
    let copies = c.requires.copies in
    let k = (row_at P c.args.flat.now copies n c.index-point.result.now c.requires.point c.index-point.ensures).copy in
    resumed P c.args.top.now c.leave_by.new.top (label_seen c.index-point.result.now.label) (call_seen c.in-Call.call) k c.args.given c.leave_by.result (state_of c.args.store.now) (state_of c.put_result.new.store)
    (ap label_seen c.in-Call.is) c.put_result.ensures.value c.leave_by.ensures.moves c.leave_by.ensures.function
