use Rattle.std.proofs.Common.{◌∙◌, ap}
use Rattle.csub_semantics.specs.declared.function.RStmt.{RStmt}
use Rattle.csub_semantics.specs.Syntax.{stmt_tree}
use Rattle.csub_semantics.specs.Successors.{case_of}
use Rattle.csub_validity.proofs.LawsLists.{new_from_pairs}
use Rattle.csub_decisions.specs.ProgramChecks.{AreOtherCases}
use Rattle.csub_decisions.proofs.valid.cases.cases_differ.Goals as goal

pub returns-then-not-is_new : goal.returns-then-not-is_new
returns-then-not-is_new c =
    let value = λ (s : RStmt). case_of (stmt_tree s) in
    let same = c.case_of-case.ensures ∙ ap value c.index-stmts-i.is in
    (λ h. cc, λ h. c.if-not-is_new.ensures.1 (new_from_pairs value AreOtherCases c.args.stmts.now c.loop-i.i c.index-stmts-i.result c.case_of-case.result c.loop-i-test.true c.index-stmts-i.is same h))
