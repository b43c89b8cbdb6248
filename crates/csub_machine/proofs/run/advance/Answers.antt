use Rattle.std.proofs.Common.{refl, ◌+◌}
use Rattle.csub_semantics.specs.Flows.{flow_of}
use Rattle.csub_semantics.specs.Syntax.{program_tree}
use Rattle.csub_machine.specs.Moments.{crossed_of}
use Rattle.csub_machine.proofs.MomentLemmas.{after_lost}
use Rattle.csub_machine.specs.Standings.{standing_of, moment_at}
use Rattle.csub_machine.proofs.Moves.{went_on}
use Rattle.csub_machine.proofs.run.advance.Goals as goal

pub unreachable-requires : goal.unreachable-requires
unreachable-requires c =
    let P = program_tree c.args.program.now in
    let run = c.args.run.now in
    let stands = c.requires.at.standing (c.requires.at.onward c.requires.running) in
    let moves = c.in-Lost.ensures.moves stands.store stands.like in
    c.never_lost.ensures.moments P c.requires.graph.valid run.store.input.items (run.done + 1)
    (after_lost (flow_of P) run.store.input.items run.done (crossed_of (moment_at P run)) (standing_of P run.frames stands.store) stands.moment moves)

pub returns-in-Goes-clause-at : goal.returns-in-Goes-clause-at
returns-in-Goes-clause-at c =
    let P = program_tree c.args.program.now in
    let run = c.args.run.now in
    let going = c.requires.at.onward c.requires.running in
    let stands = c.requires.at.standing going in
    let moves = c.in-Goes.ensures.moves stands.store stands.like in
    (went_on P run _ c.in-Goes.edge c.requires.at going moves c.take_turn.ensures.input (c.cross.ensures (crossed_of (moment_at P run)) c.requires.at.crossed) refl refl going).0
