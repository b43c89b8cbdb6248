use Rattle.std.proofs.Common.{◌≡◌, ◌∙◌, ◌++◌, ℕ, List, Option, Some, None, map, option_map, refl, ap, sym}
use Rattle.std.specs.declared.boxed.Box.{Box}
use Rattle.std.specs.declared.alloc.Global.{Global}
use Rattle.csub_tree.specs.declared.statement.Stmt.{Stmt as CodeStmt}
use Rattle.csub_tree.specs.Expressions.{expr_tree}
use Rattle.csub_tree.specs.Statements.{line_tree, perhaps_of, stmt_tree, stmts_of}
use Rattle.csub_validity.specs.Valid.{most_values}
use Rattle.csub_limits.specs.Limits.{first_above}
use Rattle.csub_limits.specs.Prints.{prints, prints_perhaps, stmt_prints, line_prints, lines_prints, perhaps_prints}
use Rattle.csub_limits.proofs.Above.{above_append, in_left, in_right, found_here, none_here}
use Rattle.csub_limits.proofs.Parts.{switch_parts, if_parts, while_parts, do_parts, for_parts}
use Rattle.csub_limits.proofs.prints.+statement.Goals as goal

abbrev wide : List ℕ → Option ℕ
wide = first_above most_values

left : (xs ys : List ℕ) (o : Option ℕ) (n : ℕ) → o ≡ wide xs → o ≡ Some n → Some n ≡ wide (xs ++ ys)
left = in_left wide (above_append most_values)

right : (xs ys : List ℕ) (o p : Option ℕ) → o ≡ wide xs → o ≡ None → p ≡ wide ys → p ≡ wide (xs ++ ys)
right = in_right wide (above_append most_values)

pub wide_in_lines-returns-in-Some : goal.wide_in_lines-returns-in-Some
wide_in_lines-returns-in-Some t c =
    found_here wide (above_append most_values) (λ (ss : List CodeStmt). lines_prints (stmts_of (map stmt_tree ss))) (λ (s : CodeStmt). stmt_prints (stmt_tree s)) (λ s ss. refl)
    c.args.lines.now c.loop-line.line-index c.line-item.result c.wide_in_stmt.result c.in-Some.values c.loop-line-test.true c.line-item.is c.loop-line.invariant c.wide_in_stmt.ensures c.in-Some.is

pub wide_in_lines-loop-line-preserved : goal.wide_in_lines-loop-line-preserved
wide_in_lines-loop-line-preserved t c =
    none_here wide (above_append most_values) (λ (ss : List CodeStmt). lines_prints (stmts_of (map stmt_tree ss))) (λ (s : CodeStmt). stmt_prints (stmt_tree s)) (λ s ss. refl)
    c.args.lines.now c.loop-line.line-index c.line-item.result c.wide_in_stmt.result c.loop-line-test.true c.line-item.is c.loop-line.invariant c.wide_in_stmt.ensures c.in_default.is

pub wide_in_line-returns-in-Some : goal.wide_in_line-returns-in-Some
wide_in_line-returns-in-Some t c =
    let head = prints (expr_tree c.in-Switch.value) in
    let body = lines_prints (stmts_of (map stmt_tree c.in-Switch.lines.items)) in
    let whole = ap (λ k. line_prints (line_tree k)) c.in-Switch.is ∙ switch_parts c.in-Switch.value c.in-Switch.lines in
    left head body c.wide_in_expr.result c.in-Some.values c.wide_in_expr.ensures c.in-Some.is
    ∙ ap wide (sym whole)

pub wide_in_line-returns-in-None : goal.wide_in_line-returns-in-None
wide_in_line-returns-in-None t c =
    let head = prints (expr_tree c.in-Switch.value) in
    let body = lines_prints (stmts_of (map stmt_tree c.in-Switch.lines.items)) in
    let whole = ap (λ k. line_prints (line_tree k)) c.in-Switch.is ∙ switch_parts c.in-Switch.value c.in-Switch.lines in
    right head body c.wide_in_expr.result _ c.wide_in_expr.ensures c.in-None.is
    (rw c.deref-in-None.ensures.value at c.wide_in_lines-in-None.ensures)
    ∙ ap wide (sym whole)

pub wide_in_line-returns-in-Some-wide_in_expr : goal.wide_in_line-returns-in-Some-wide_in_expr
wide_in_line-returns-in-Some-wide_in_expr t c =
    let test = prints (expr_tree c.in-If.test) in
    let body = stmt_prints (stmt_tree c.in-If.then.value) in
    let other = perhaps_prints (perhaps_of (option_map (λ (s : Box CodeStmt Global). stmt_tree s.value) c.in-If.other)) in
    let whole = ap (λ k. line_prints (line_tree k)) c.in-If.is ∙ if_parts c.in-If.test c.in-If.then c.in-If.other in
    left test (body ++ other) c.wide_in_expr-in-If.result c.in-Some-wide_in_expr.values c.wide_in_expr-in-If.ensures c.in-Some-wide_in_expr.is
    ∙ ap wide (sym whole)

pub wide_in_line-returns-in-Some-wide_in_stmt : goal.wide_in_line-returns-in-Some-wide_in_stmt
wide_in_line-returns-in-Some-wide_in_stmt t c =
    let test = prints (expr_tree c.in-If.test) in
    let body = stmt_prints (stmt_tree c.in-If.then.value) in
    let other = perhaps_prints (perhaps_of (option_map (λ (s : Box CodeStmt Global). stmt_tree s.value) c.in-If.other)) in
    let whole = ap (λ k. line_prints (line_tree k)) c.in-If.is ∙ if_parts c.in-If.test c.in-If.then c.in-If.other in
    right test (body ++ other) c.wide_in_expr-in-If.result _ c.wide_in_expr-in-If.ensures c.in-None-wide_in_expr.is
    (left body other c.wide_in_stmt-in-None-wide_in_expr.result c.in-Some-wide_in_stmt.values (rw c.deref-in-None-wide_in_expr.ensures at c.wide_in_stmt-in-None-wide_in_expr.ensures) c.in-Some-wide_in_stmt.is)
    ∙ ap wide (sym whole)

pub wide_in_line-returns-in-None-wide_in_stmt : goal.wide_in_line-returns-in-None-wide_in_stmt
wide_in_line-returns-in-None-wide_in_stmt t c =
    let test = prints (expr_tree c.in-If.test) in
    let body = stmt_prints (stmt_tree c.in-If.then.value) in
    let other = perhaps_prints (perhaps_of (option_map (λ (s : Box CodeStmt Global). stmt_tree s.value) c.in-If.other)) in
    let whole = ap (λ k. line_prints (line_tree k)) c.in-If.is ∙ if_parts c.in-If.test c.in-If.then c.in-If.other in
    right test (body ++ other) c.wide_in_expr-in-If.result _ c.wide_in_expr-in-If.ensures c.in-None-wide_in_expr.is
    (right body other c.wide_in_stmt-in-None-wide_in_expr.result _ (rw c.deref-in-None-wide_in_expr.ensures at c.wide_in_stmt-in-None-wide_in_expr.ensures) c.in-None-wide_in_stmt.is
    c.wide_in_perhaps.ensures)
    ∙ ap wide (sym whole)

pub wide_in_line-returns-in-Some-wide_in_expr-2 : goal.wide_in_line-returns-in-Some-wide_in_expr-2
wide_in_line-returns-in-Some-wide_in_expr-2 t c =
    let test = prints (expr_tree c.in-While.test) in
    let body = stmt_prints (stmt_tree c.in-While.body.value) in
    let whole = ap (λ k. line_prints (line_tree k)) c.in-While.is ∙ while_parts c.in-While.test c.in-While.body in
    left test body c.wide_in_expr-in-While.result c.in-Some-wide_in_expr-2.values c.wide_in_expr-in-While.ensures c.in-Some-wide_in_expr-2.is
    ∙ ap wide (sym whole)

pub wide_in_line-returns-in-None-wide_in_expr-2 : goal.wide_in_line-returns-in-None-wide_in_expr-2
wide_in_line-returns-in-None-wide_in_expr-2 t c =
    let test = prints (expr_tree c.in-While.test) in
    let body = stmt_prints (stmt_tree c.in-While.body.value) in
    let whole = ap (λ k. line_prints (line_tree k)) c.in-While.is ∙ while_parts c.in-While.test c.in-While.body in
    right test body c.wide_in_expr-in-While.result _ c.wide_in_expr-in-While.ensures c.in-None-wide_in_expr-2.is
    (rw c.deref-in-None-wide_in_expr-2.ensures at c.wide_in_stmt-in-None-wide_in_expr-2.ensures)
    ∙ ap wide (sym whole)

pub wide_in_line-returns-in-Some-wide_in_stmt-2 : goal.wide_in_line-returns-in-Some-wide_in_stmt-2
wide_in_line-returns-in-Some-wide_in_stmt-2 t c =
    let body = stmt_prints (stmt_tree c.in-Do.body.value) in
    let test = prints (expr_tree c.in-Do.test) in
    let whole = ap (λ k. line_prints (line_tree k)) c.in-Do.is ∙ do_parts c.in-Do.body c.in-Do.test in
    left body test c.wide_in_stmt-in-Do.result c.in-Some-wide_in_stmt-2.values (rw c.deref-in-Do.ensures at c.wide_in_stmt-in-Do.ensures) c.in-Some-wide_in_stmt-2.is
    ∙ ap wide (sym whole)

pub wide_in_line-returns-in-None-wide_in_stmt-2 : goal.wide_in_line-returns-in-None-wide_in_stmt-2
wide_in_line-returns-in-None-wide_in_stmt-2 t c =
    let body = stmt_prints (stmt_tree c.in-Do.body.value) in
    let test = prints (expr_tree c.in-Do.test) in
    let whole = ap (λ k. line_prints (line_tree k)) c.in-Do.is ∙ do_parts c.in-Do.body c.in-Do.test in
    right body test c.wide_in_stmt-in-Do.result _ (rw c.deref-in-Do.ensures at c.wide_in_stmt-in-Do.ensures) c.in-None-wide_in_stmt-2.is
    c.wide_in_expr-in-None-wide_in_stmt-2.ensures
    ∙ ap wide (sym whole)

pub wide_in_line-returns-in-Some-wide_in_perhaps : goal.wide_in_line-returns-in-Some-wide_in_perhaps
wide_in_line-returns-in-Some-wide_in_perhaps t c =
    let first = perhaps_prints (perhaps_of (option_map (λ (s : Box CodeStmt Global). stmt_tree s.value) c.in-For.first)) in
    let head = prints_perhaps (option_map expr_tree c.in-For.test) ++ prints_perhaps (option_map expr_tree c.in-For.third) in
    let body = stmt_prints (stmt_tree c.in-For.body.value) in
    let whole = ap (λ k. line_prints (line_tree k)) c.in-For.is ∙ for_parts c.in-For.first c.in-For.test c.in-For.third c.in-For.body in
    left first (head ++ body) c.wide_in_perhaps-in-For.result c.in-Some-wide_in_perhaps.values c.wide_in_perhaps-in-For.ensures c.in-Some-wide_in_perhaps.is
    ∙ ap wide (sym whole)

pub wide_in_line-returns-in-Some-wide_in_head : goal.wide_in_line-returns-in-Some-wide_in_head
wide_in_line-returns-in-Some-wide_in_head t c =
    let first = perhaps_prints (perhaps_of (option_map (λ (s : Box CodeStmt Global). stmt_tree s.value) c.in-For.first)) in
    let head = prints_perhaps (option_map expr_tree c.in-For.test) ++ prints_perhaps (option_map expr_tree c.in-For.third) in
    let body = stmt_prints (stmt_tree c.in-For.body.value) in
    let whole = ap (λ k. line_prints (line_tree k)) c.in-For.is ∙ for_parts c.in-For.first c.in-For.test c.in-For.third c.in-For.body in
    right first (head ++ body) c.wide_in_perhaps-in-For.result _ c.wide_in_perhaps-in-For.ensures c.in-None-wide_in_perhaps.is
    (left head body c.wide_in_head.result c.in-Some-wide_in_head.values c.wide_in_head.ensures c.in-Some-wide_in_head.is)
    ∙ ap wide (sym whole)

pub wide_in_line-returns-in-None-wide_in_head : goal.wide_in_line-returns-in-None-wide_in_head
wide_in_line-returns-in-None-wide_in_head t c =
    let first = perhaps_prints (perhaps_of (option_map (λ (s : Box CodeStmt Global). stmt_tree s.value) c.in-For.first)) in
    let head = prints_perhaps (option_map expr_tree c.in-For.test) ++ prints_perhaps (option_map expr_tree c.in-For.third) in
    let body = stmt_prints (stmt_tree c.in-For.body.value) in
    let whole = ap (λ k. line_prints (line_tree k)) c.in-For.is ∙ for_parts c.in-For.first c.in-For.test c.in-For.third c.in-For.body in
    right first (head ++ body) c.wide_in_perhaps-in-For.result _ c.wide_in_perhaps-in-For.ensures c.in-None-wide_in_perhaps.is
    (right head body c.wide_in_head.result _ c.wide_in_head.ensures c.in-None-wide_in_head.is
    (rw c.deref-in-None-wide_in_head.ensures at c.wide_in_stmt-in-None-wide_in_head.ensures))
    ∙ ap wide (sym whole)
