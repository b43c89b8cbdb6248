use Rattle.csub_decisions.proofs.ValidGlobals.{AreGlobals-split}
use Rattle.csub_decisions.proofs.valid.globals.are_globals.Goals as goal

pub returns-then-has_few_cells : goal.returns-then-has_few_cells
returns-then-has_few_cells c =
    let split = AreGlobals-split c.args.globals.now in
    let few = c.has_few_cells.ensures.0 c.if-has_few_cells.true in
    (λ h. let fine = c.are_fine.ensures.0 h in split.1 (few, fine.0, fine.1), λ h. let all = split.0 h in c.are_fine.ensures.1 (all.1, all.2))

pub returns-else-has_few_cells : goal.returns-else-has_few_cells
returns-else-has_few_cells c =
    let split = AreGlobals-split c.args.globals.now in (λ h. cc, λ h. c.has_few_cells.ensures.1 (split.0 h).0)
