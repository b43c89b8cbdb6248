use Rattle.std.proofs.Common.{arith, Ok, sym, ◌∙◌, ◌≡◌, ◌-◌, map}
use Rattle.std.proofs.lemmas.Result.{err_from_is_err_and}
use Rattle.std.proofs.lemmas.List.{map_push}
use Rattle.csub_lex.specs.declared.token.Mark.TheVariants.{CloseBrace}
use Rattle.csub_tree.specs.Expressions.{expr_tree}
use Rattle.csub_tree.specs.Statements.{stmt_tree}
use Rattle.csub_expr.specs.Looks.{begins, rest}
use Rattle.csub_expr.specs.Answers.{Fails}
use Rattle.csub_stmt.specs.StatementDescent.{read_stmt, read_line, switch_line_by}
use Rattle.csub_stmt.proofs.StatementSound.{stmt_sound, read_line_shorter, switch_line_shorter}
use Rattle.csub_stmt.proofs.LawsLoops.{each_fails, each_goes, each_ends}
use Rattle.csub_stmt.proofs.Plain.{plain_evaluated, plain_refused, plain_labelled, plain_fails}
use Rattle.csub_stmt.proofs.block.+stmt.Goals as goal

pub lines-returns-in_err-one : goal.lines-returns-in_err-one
lines-returns-in_err-one t c =
    let p = err_from_is_err_and c.from_residual.result c.from_residual.ensures.1 in
    let i = c.each.invariant in
    rw (p.1, p.2, i.2) (each_fails (read_line c.args.budget) (begins CloseBrace) c.in_err-one.field-0.0 i.0 c.each.rest.now (map stmt_tree c.each.all.items) i.1 (sym c.each-test.ensures) c.in_err-one.ensures)

pub lines-each-smaller : goal.lines-each-smaller
lines-each-smaller t c = read_line_shorter c.args.budget c.each.rest.now (stmt_tree c.in_ok-one.one) c.in_ok-one.after.now c.in_ok-one.ensures

pub lines-each-preserved : goal.lines-each-preserved
lines-each-preserved t c =
    let i = c.each.invariant in
    let less = read_line_shorter c.args.budget c.each.rest.now (stmt_tree c.in_ok-one.one) c.in_ok-one.after.now c.in_ok-one.ensures in
    let goes = each_goes (read_line c.args.budget) (begins CloseBrace) i.0 c.each.rest.now c.in_ok-one.after.now (map stmt_tree c.each.all.items) (stmt_tree c.in_ok-one.one) i.1 (sym c.each-test.ensures) c.in_ok-one.ensures in
    (i.0 - 1, omega (arith, i.1, less), rw (c.in_ok-push_line.ensures.ok, map_push stmt_tree c.each.all.items c.in_ok-one.one) (i.2 ∙ goes))

pub lines-returns : goal.lines-returns
lines-returns t c = let i = c.each.invariant in i.2 ∙ each_ends (read_line c.args.budget) (begins CloseBrace) i.0 c.each.rest.now (map stmt_tree c.each.all.items) (sym c.each-test.ensures)

pub switch_lines-returns-in_err-one : goal.switch_lines-returns-in_err-one
switch_lines-returns-in_err-one t c =
    let p = err_from_is_err_and c.from_residual.result c.from_residual.ensures.1 in
    let i = c.each.invariant in
    rw (p.1, p.2, i.2) (each_fails (switch_line_by (read_stmt c.args.budget) c.args.budget) (begins CloseBrace) c.in_err-one.field-0.0 i.0 c.each.rest.now (map stmt_tree c.each.all.items) i.1 (sym c.each-test.ensures) c.in_err-one.ensures)

pub switch_lines-each-smaller : goal.switch_lines-each-smaller
switch_lines-each-smaller t c = switch_line_shorter c.args.budget (read_stmt c.args.budget) (stmt_sound c.args.budget) c.each.rest.now (stmt_tree c.in_ok-one.one) c.in_ok-one.after.now c.in_ok-one.ensures

pub switch_lines-each-preserved : goal.switch_lines-each-preserved
switch_lines-each-preserved t c =
    let i = c.each.invariant in
    let less = switch_line_shorter c.args.budget (read_stmt c.args.budget) (stmt_sound c.args.budget) c.each.rest.now (stmt_tree c.in_ok-one.one) c.in_ok-one.after.now c.in_ok-one.ensures in
    let goes = each_goes (switch_line_by (read_stmt c.args.budget) c.args.budget) (begins CloseBrace) i.0 c.each.rest.now c.in_ok-one.after.now (map stmt_tree c.each.all.items) (stmt_tree c.in_ok-one.one) i.1 (sym c.each-test.ensures) c.in_ok-one.ensures in
    (i.0 - 1, omega (arith, i.1, less), rw (c.in_ok-push_line.ensures.ok, map_push stmt_tree c.each.all.items c.in_ok-one.one) (i.2 ∙ goes))

pub switch_lines-returns : goal.switch_lines-returns
switch_lines-returns t c = let i = c.each.invariant in i.2 ∙ each_ends (switch_line_by (read_stmt c.args.budget) c.args.budget) (begins CloseBrace) i.0 c.each.rest.now (map stmt_tree c.each.all.items) (sym c.each-test.ensures)

pub plain-returns-then-not-begins : goal.plain-returns-then-not-begins
plain-returns-then-not-begins t c =
    let b = c.args.budget in
    rw (plain_evaluated (read_stmt b) b c.args.tokens.now c.in_ok-e.rest.now (expr_tree c.in_ok-e.e.value) c.in_ok-e.ensures (sym c.if-not-begins.ensures)) c.evaluated_end.ensures

pub plain-returns-in_default : goal.plain-returns-in_default
plain-returns-in_default t c =
    let b = c.args.budget in
    plain_refused (read_stmt b) b c.args.tokens.now c.in_ok-e.rest.now (expr_tree c.in_ok-e.e.value) c.in_ok-e.ensures (sym c.if-not-begins.ensures) (sym c.in_default.is ∙ c.bare_name.ensures)

pub plain-returns-in_err-x : goal.plain-returns-in_err-x
plain-returns-in_err-x t c =
    let p = err_from_is_err_and c.from_residual-in_err-x.result c.from_residual-in_err-x.ensures.1 in
    let b = c.args.budget in
    let failed : Fails c.in_err-x.field-0.0 (read_stmt b (rest c.in_ok-e.rest.now)) = rw (← c.skip.ensures) c.in_err-x.ensures in
    rw (p.1, p.2) (plain_fails (read_stmt b) b c.in_err-x.field-0.0 c.args.tokens.now c.in_ok-e.rest.now (expr_tree c.in_ok-e.e.value) c.in-Some.name c.in_ok-e.ensures (sym c.if-not-begins.ensures) c.in-Some.ensures failed)

pub plain-returns : goal.plain-returns
plain-returns t c =
    let b = c.args.budget in
    let one : read_stmt b (rest c.in_ok-e.rest.now) ≡ Ok (stmt_tree c.in_ok-x.x.value, c.in_ok-x.rest.now) = rw (← c.skip.ensures) c.in_ok-x.ensures in
    rw (c.label_node.ensures, c.start_of-start.ensures) (plain_labelled (read_stmt b) b c.args.tokens.now c.in_ok-e.rest.now c.in_ok-x.rest.now (expr_tree c.in_ok-e.e.value) c.in-Some.name (stmt_tree c.in_ok-x.x.value) c.in_ok-e.ensures (sym c.if-not-begins.ensures) c.in-Some.ensures one)
