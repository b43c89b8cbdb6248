use Rattle.csub_decisions.proofs.ValidCases.{cases_of_lines}
use Rattle.csub_decisions.proofs.valid.cases.are_cases.Goals as goal

pub returns-then-has_few_stmts : goal.returns-then-has_few_stmts
returns-then-has_few_stmts c =
    let few = c.has_few_stmts.ensures.0 c.if-has_few_stmts.true in
    let apart = cases_of_lines c.args.stmts.now in (
      λ h. let all = c.are_apart.ensures.0 h in record { few = few; distinct = apart.1 all.0; one = all.1 },
      λ h. c.are_apart.ensures.1 (apart.0 h.distinct, h.one),
    )

pub returns-else-has_few_stmts : goal.returns-else-has_few_stmts
returns-else-has_few_stmts c = (λ h. cc, λ h. c.has_few_stmts.ensures.1 h.few)
