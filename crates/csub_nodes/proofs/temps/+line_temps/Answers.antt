use Rattle.std.proofs.Common.{◌≡◌, ◌∙◌, ap, sym, map, max}
use Rattle.csub_semantics.specs.declared.function.RStmt.{If}
use Rattle.csub_semantics.specs.Syntax.{conditional, do_loop, else_stmt, for_loop, part_tree, stmt_tree, stmts_of, switch_on}
use Rattle.csub_semantics.proofs.LawsRows.{stmt_tree-Block, stmt_tree-Switch}
use Rattle.csub_resolution.specs.Programs.{most_temps, part_temps, parts_of_all}
use Rattle.csub_nodes.proofs.Made.{do_made, for_made, if_made}
use Rattle.csub_nodes.proofs.Most.{most_of, most_do, most_for, most_if, most_more, told}
use Rattle.csub_nodes.proofs.temps.+line_temps.Goals as goal

pub line_temps-returns-in-Block : goal.line_temps-returns-in-Block
line_temps-returns-in-Block t c =
    told c.lines_temps.result (most_temps (parts_of_all (stmts_of (map stmt_tree c.as_slice-in-Block.result.now)))) (most_of (stmt_tree c.args.s.now))
    c.lines_temps.ensures
    (ap (λ xs. most_temps (parts_of_all (stmts_of (map stmt_tree xs)))) c.as_slice-in-Block.ensures.value
    ∙ sym (ap most_of (ap stmt_tree c.in-Block.is ∙ stmt_tree-Block c.in-Block.lines)))

pub line_temps-returns-in_ok-line_temps-in-Some : goal.line_temps-returns-in_ok-line_temps-in-Some
line_temps-returns-in_ok-line_temps-in-Some t c =
    let p = part_tree c.in-If.test in
    let then = stmt_tree c.in-If.then.value in
    let other = stmt_tree c.in-Some.other.value in
    let tree : stmt_tree c.args.s.now ≡ conditional p then (else_stmt other) =
    ap stmt_tree c.in-If.is ∙ ap (λ o. stmt_tree (If c.in-If.test c.in-If.then o)) c.in-Some.is ∙ if_made c.in-If.test c.in-If.then c.in-Some.other in
    c.max-in-Some-2.ensures
    ∙ ap (λ n. max n c.max-in-Some.result) c.in_ok-tested-in-If.ensures
    ∙ ap (λ n. max (part_temps p) n) c.max-in-Some.ensures
    ∙ ap (λ n. max (part_temps p) (max n c.in_ok-line_temps-in-Some.field-0)) (c.in_ok-first-in-If.ensures ∙ ap (λ s. most_of (stmt_tree s)) c.deref.ensures)
    ∙ ap (λ n. max (part_temps p) (max (most_of then) n)) (c.in_ok-line_temps-in-Some.ensures ∙ ap (λ s. most_of (stmt_tree s)) c.deref-in-Some.ensures)
    ∙ sym (most_if p then other) ∙ sym (ap most_of tree)

pub line_temps-returns-in_ok-part_temps-in-Do : goal.line_temps-returns-in_ok-part_temps-in-Do
line_temps-returns-in_ok-part_temps-in-Do t c =
    let p = part_tree c.in-Do.test in
    let body = stmt_tree c.in-Do.body.value in
    let tree : stmt_tree c.args.s.now ≡ do_loop body p = ap stmt_tree c.in-Do.is ∙ do_made c.in-Do.body c.in-Do.test in
    c.max-in-Do.ensures
    ∙ ap (λ n. max n c.in_ok-part_temps-in-Do.field-0) (c.in_ok-line_temps-in-Do.ensures ∙ ap (λ s. most_of (stmt_tree s)) c.deref-in-Do.ensures)
    ∙ ap (λ n. max (most_of body) n) c.in_ok-part_temps-in-Do.ensures
    ∙ sym (most_do body p) ∙ sym (ap most_of tree)

pub line_temps-returns-in_ok-inner-in-For : goal.line_temps-returns-in_ok-inner-in-For
line_temps-returns-in_ok-inner-in-For t c =
    let first = map part_tree c.in-For.first.items in
    let p = part_tree c.in-For.test in
    let third = map part_tree c.in-For.third.items in
    let body = stmt_tree c.in-For.body.value in
    let inner = c.in_ok-inner-in-For.inner in
    let now = map part_tree c.as_slice-in-For.result.now in
    let later = map part_tree c.as_slice-in-For-2.result.now in
    let tree : stmt_tree c.args.s.now ≡ for_loop first p third body =
    ap stmt_tree c.in-For.is ∙ for_made c.in-For.first c.in-For.test c.in-For.third c.in-For.body in
    told c.for_temps.result (max (most_temps now) (max (part_temps p) (max (most_temps later) inner))) (most_of (stmt_tree c.args.s.now)) c.for_temps.ensures
    (ap (λ xs. max (most_temps (map part_tree xs)) (max (part_temps p) (max (most_temps later) inner))) c.as_slice-in-For.ensures.value
    ∙ ap (λ xs. max (most_temps first) (max (part_temps p) (max (most_temps (map part_tree xs)) inner))) c.as_slice-in-For-2.ensures.value
    ∙ ap (λ n. max (most_temps first) (max (part_temps p) (max (most_temps third) n)))
    (c.in_ok-inner-in-For.ensures ∙ ap (λ s. most_of (stmt_tree s)) c.deref-in-For.ensures)
    ∙ sym (most_for first p third body) ∙ sym (ap most_of tree))

pub line_temps-returns-in_ok-lines_temps-in-Switch : goal.line_temps-returns-in_ok-lines_temps-in-Switch
line_temps-returns-in_ok-lines_temps-in-Switch t c =
    let p = part_tree c.in-Switch.part in
    let lines = stmts_of (map stmt_tree c.in-Switch.lines.items) in
    let tree : stmt_tree c.args.s.now ≡ switch_on p lines = ap stmt_tree c.in-Switch.is ∙ stmt_tree-Switch c.in-Switch.part c.in-Switch.lines in
    c.max-in-Switch.ensures
    ∙ ap (λ n. max n c.in_ok-lines_temps-in-Switch.field-0) c.in_ok-part_temps-in-Switch.ensures
    ∙ ap (λ n. max (part_temps p) n)
    (c.in_ok-lines_temps-in-Switch.ensures ∙ ap (λ xs. most_temps (parts_of_all (stmts_of (map stmt_tree xs)))) c.as_slice-in-Switch.ensures.value)
    ∙ sym (ap most_of tree)

pub lines_temps-loop-line-preserved : goal.lines_temps-loop-line-preserved
lines_temps-loop-line-preserved t c =
    most_more c.args.lines.now c.loop-line.line-index c.line-item.result c.loop-line.most c.in_ok-line_temps.field-0 c.max-most.result
    c.loop-line-test.true c.line-item.is c.in_ok-line_temps.ensures c.max-most.ensures ∙ c.loop-line.invariant
