use Rattle.std.proofs.Common.{◌≡◌, ◌∙◌, ap, sym, option_map, Some, rules}
use Rattle.csub_tree.specs.declared.statement.StmtKind.{For as CodeFor, If as CodeIf, the_lemmas}
use Rattle.csub_tree.specs.Expressions.{expr_tree}
use Rattle.csub_tree.specs.Statements.{If, For, OneStmt, line_tree, stmt_tree}
use Rattle.csub_rules.specs.Labels.{labels_of, labels_of_kind, past_names, twice_fault}
use Rattle.csub_bodies.proofs.Collecting.{both_names, both_faults, names_more, faults_more}
use Rattle.csub_bodies.proofs.LawsTrees.{line_of}
use Rattle.csub_bodies.proofs.labels.+collect_labels.Goals as goal

pub collect_from_lines-loop-line-preserved : goal.collect_from_lines-loop-line-preserved
collect_from_lines-loop-line-preserved t c = record {
  past = names_more c.loop-line.labels c.collect_labels.new.labels c.args.lines.now c.loop-line.line-index c.line-item.result c.loop-line-test.true
      c.line-item.is c.in_ok-fault.ensures.labels ∙ c.loop-line.invariant.past;
  faults = faults_more c.loop-line.labels c.collect_labels.new.labels c.args.lines.now c.loop-line.line-index c.line-item.result c.loop-line.least
      c.in_ok-fault.fault c.earlier-least.result c.loop-line-test.true c.line-item.is c.in_ok-fault.ensures.labels c.in_ok-fault.ensures.fault
      c.earlier-least.ensures ∙ c.loop-line.invariant.faults;
}

pub collect_labels-returns-in_ok-second-in-Some-clause-fault : goal.collect_labels-returns-in_ok-second-in-Some-clause-fault
collect_labels-returns-in_ok-second-in-Some-clause-fault t c =
    let xs = labels_of (stmt_tree c.in-If.then.value) in
    let ys = labels_of (stmt_tree c.in-Some.other.value) in
    let tree : line_tree (CodeIf c.in-If.field-0 c.in-If.then (Some c.in-Some.other)) ≡ If (expr_tree c.in-If.field-0) (stmt_tree c.in-If.then.value) (OneStmt (stmt_tree c.in-Some.other.value)) = search (rules, the_lemmas) in
    let whole = ap line_tree c.in-If.is ∙ ap (λ o. line_tree (CodeIf c.in-If.field-0 c.in-If.then o)) c.in-Some.is ∙ tree in
    both_faults c.args.labels.now c.collect_labels.new.labels xs ys c.in_ok-first-in-If.first c.in_ok-second-in-Some.second c.earlier.result
    (c.in_ok-first-in-If.ensures.labels ∙ ap (λ s. past_names c.args.labels.now (labels_of (stmt_tree s))) c.deref.ensures)
    (c.in_ok-first-in-If.ensures.fault ∙ ap (λ s. twice_fault c.args.labels.now (labels_of (stmt_tree s))) c.deref.ensures)
    (c.in_ok-second-in-Some.ensures.fault ∙ ap (λ s. twice_fault c.collect_labels.new.labels (labels_of (stmt_tree s))) c.deref-in-Some.ensures)
    c.earlier.ensures
    ∙ ap (λ k. twice_fault c.args.labels.now (labels_of_kind k)) (sym whole) ∙ ap (λ s. twice_fault c.args.labels.now (labels_of s)) (sym (line_of c.args.s.now))

pub collect_labels-returns-in_ok-second-in-Some-clause-labels : goal.collect_labels-returns-in_ok-second-in-Some-clause-labels
collect_labels-returns-in_ok-second-in-Some-clause-labels t c =
    let xs = labels_of (stmt_tree c.in-If.then.value) in
    let ys = labels_of (stmt_tree c.in-Some.other.value) in
    let tree : line_tree (CodeIf c.in-If.field-0 c.in-If.then (Some c.in-Some.other)) ≡ If (expr_tree c.in-If.field-0) (stmt_tree c.in-If.then.value) (OneStmt (stmt_tree c.in-Some.other.value)) = search (rules, the_lemmas) in
    let whole = ap line_tree c.in-If.is ∙ ap (λ o. line_tree (CodeIf c.in-If.field-0 c.in-If.then o)) c.in-Some.is ∙ tree in
    both_names c.args.labels.now c.collect_labels.new.labels c.collect_labels-in-Some.new.labels xs ys
    (c.in_ok-first-in-If.ensures.labels ∙ ap (λ s. past_names c.args.labels.now (labels_of (stmt_tree s))) c.deref.ensures)
    (c.in_ok-second-in-Some.ensures.labels ∙ ap (λ s. past_names c.collect_labels.new.labels (labels_of (stmt_tree s))) c.deref-in-Some.ensures)
    ∙ ap (λ k. past_names c.args.labels.now (labels_of_kind k)) (sym whole) ∙ ap (λ s. past_names c.args.labels.now (labels_of s)) (sym (line_of c.args.s.now))

pub collect_labels-returns-in_ok-inner-in-Some-first-clause-fault : goal.collect_labels-returns-in_ok-inner-in-Some-first-clause-fault
collect_labels-returns-in_ok-inner-in-Some-first-clause-fault t c =
    let xs = labels_of (stmt_tree c.in-Some-first.first.value) in
    let ys = labels_of (stmt_tree c.in-For.body.value) in
    let tree : line_tree (CodeFor (Some c.in-Some-first.first) c.in-For.field-1 c.in-For.field-2 c.in-For.body) ≡ For (OneStmt (stmt_tree c.in-Some-first.first.value)) (option_map expr_tree c.in-For.field-1) (option_map expr_tree c.in-For.field-2) (stmt_tree c.in-For.body.value) = search (rules, the_lemmas) in
    let whole = ap line_tree c.in-For.is ∙ ap (λ o. line_tree (CodeFor o c.in-For.field-1 c.in-For.field-2 c.in-For.body)) c.in-Some-first.is ∙ tree in
    both_faults c.args.labels.now c.collect_labels-in-Some-first.new.labels xs ys c.in_ok-start-in-Some-first.start c.in_ok-inner-in-Some-first.inner c.earlier-in-Some-first.result
    (c.in_ok-start-in-Some-first.ensures.labels ∙ ap (λ s. past_names c.args.labels.now (labels_of (stmt_tree s))) c.deref-in-Some-first.ensures)
    (c.in_ok-start-in-Some-first.ensures.fault ∙ ap (λ s. twice_fault c.args.labels.now (labels_of (stmt_tree s))) c.deref-in-Some-first.ensures)
    (c.in_ok-inner-in-Some-first.ensures.fault ∙ ap (λ s. twice_fault c.collect_labels-in-Some-first.new.labels (labels_of (stmt_tree s))) c.deref-in-Some-first-2.ensures)
    c.earlier-in-Some-first.ensures
    ∙ ap (λ k. twice_fault c.args.labels.now (labels_of_kind k)) (sym whole) ∙ ap (λ s. twice_fault c.args.labels.now (labels_of s)) (sym (line_of c.args.s.now))

pub collect_labels-returns-in_ok-inner-in-Some-first-clause-labels : goal.collect_labels-returns-in_ok-inner-in-Some-first-clause-labels
collect_labels-returns-in_ok-inner-in-Some-first-clause-labels t c =
    let xs = labels_of (stmt_tree c.in-Some-first.first.value) in
    let ys = labels_of (stmt_tree c.in-For.body.value) in
    let tree : line_tree (CodeFor (Some c.in-Some-first.first) c.in-For.field-1 c.in-For.field-2 c.in-For.body) ≡ For (OneStmt (stmt_tree c.in-Some-first.first.value)) (option_map expr_tree c.in-For.field-1) (option_map expr_tree c.in-For.field-2) (stmt_tree c.in-For.body.value) = search (rules, the_lemmas) in
    let whole = ap line_tree c.in-For.is ∙ ap (λ o. line_tree (CodeFor o c.in-For.field-1 c.in-For.field-2 c.in-For.body)) c.in-Some-first.is ∙ tree in
    both_names c.args.labels.now c.collect_labels-in-Some-first.new.labels c.collect_labels-in-Some-first-2.new.labels xs ys
    (c.in_ok-start-in-Some-first.ensures.labels ∙ ap (λ s. past_names c.args.labels.now (labels_of (stmt_tree s))) c.deref-in-Some-first.ensures)
    (c.in_ok-inner-in-Some-first.ensures.labels ∙ ap (λ s. past_names c.collect_labels-in-Some-first.new.labels (labels_of (stmt_tree s))) c.deref-in-Some-first-2.ensures)
    ∙ ap (λ k. past_names c.args.labels.now (labels_of_kind k)) (sym whole) ∙ ap (λ s. past_names c.args.labels.now (labels_of s)) (sym (line_of c.args.s.now))
