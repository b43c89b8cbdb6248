use Rattle.std.proofs.Common.{List, Bool, ap, subst, sym, ◌∙◌}
use Rattle.std.specs.Prelude.{IsTrue}
use Rattle.edge_trace.specs.Rows.{has}
use Rattle.csub_semantics.specs.Syntax.{program_tree}
use Rattle.csub_machine.specs.Moments.{Seen, moment_of, crossed_of}
use Rattle.csub_machine.specs.Crossed.{crossed_row}
use Rattle.csub_machine.proofs.RowLemmas.{crossed_is, is_crossed}
use Rattle.csub_machine.proofs.machine.Machine.crossed.Goals as goal

pub returns-clause-crossed : goal.returns-clause-crossed
returns-clause-crossed c e =
    let P = program_tree c.args.self.now.program in
    let es = crossed_of (moment_of c.args.self.now) in
    let row = c.self.invariant.1.crossed ∙ ap (λ (m : Seen). crossed_row (program_tree m.program) (crossed_of (moment_of m))) c.self.view_is in (
      λ h. crossed_is P es e (subst (λ (r : List Bool). IsTrue (has r e)) row h),
      λ h. subst (λ (r : List Bool). IsTrue (has r e)) (sym row) (is_crossed P es e h),
    )
