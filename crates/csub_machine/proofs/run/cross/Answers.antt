use Rattle.std.proofs.Common.{◌∙◌, ap, sym, subst, ℕ, List, Bool, true, Option}
use Rattle.std.specs.Prelude.{slice_set}
use Rattle.csub_semantics.specs.Runs.{crossing}
use Rattle.csub_semantics.specs.Syntax.{program_tree}
use Rattle.csub_machine.specs.Crossed.{crossed_row, edge_of}
use Rattle.csub_machine.specs.Standings.{IsOfProgram}
use Rattle.flow_graph.proofs.LawsOnce.{edges_once}
use Rattle.csub_machine.proofs.RowLemmas.{row_crossed}
use Rattle.csub_machine.proofs.run.cross.Goals as goal

pub returns-in-Some : goal.returns-in-Some
returns-in-Some c es e =
    let P = program_tree c.args.program.now in
    c.set.ensures
    ∙ ap (λ (row : List Bool). slice_set row c.in-Some.number true) e
    ∙ row_crossed P es c.in-Some.number (edges_once P c.requires.graph.valid) (subst (IsOfProgram P) c.in-Some.is c.requires.edge)
    ∙ ap (λ (o : Option ℕ). crossed_row P (crossing (edge_of P o) es)) (sym c.in-Some.is)
