use Rattle.std.proofs.Common.{◌≡◌, ◌∙◌, ap, sym, map, option_map}
use Rattle.csub_tree.specs.Expressions.{expr_tree}
use Rattle.csub_tree.specs.Statements.{Perhaps, For, perhaps_of, line_tree, stmt_tree, stmts_of}
use Rattle.csub_rules.specs.Here.{Here}
use Rattle.csub_rules.specs.Past.{past, past_kind}
use Rattle.csub_bodies.specs.Switches.{label_at, seen_of}
use Rattle.csub_bodies.specs.Views.{here_of, the_surroundings}
use Rattle.csub_bodies.proofs.LawsGrows.{block_left, for_left}
use Rattle.csub_bodies.proofs.LawsTrees.{for_tree, line_of}
use Rattle.csub_bodies.proofs.Loops.{lines_past_more, lines_fault_more, labels_more}
use Rattle.csub_bodies.proofs.statement.+check_statement.Goals as goal

pub check_block-returns-clause-past : goal.check_block-returns-clause-past
check_block-returns-clause-past t c =
    block_left (here_of c.args.here.now) (here_of c.enter.new.here) (here_of c.check_lines.new.here) (here_of c.leave.new.here)
    (stmts_of (map stmt_tree c.args.lines.now)) c.in_ok-outer.outer.depth c.in_ok-outer.outer.names c.in_ok-outer.ensures.depth
    c.in_ok-outer.ensures.names c.in_ok-outer.ensures.entered c.in_ok-fault.ensures.past c.leave.ensures

pub check_switch-returns-clause-past : goal.check_switch-returns-clause-past
check_switch-returns-clause-past t c =
    block_left (here_of c.args.here.now) (here_of c.enter.new.here) (here_of c.check_cases.new.here) (here_of c.leave.new.here)
    (stmts_of (map stmt_tree c.args.lines.now)) c.in_ok-outer.outer.depth c.in_ok-outer.outer.names c.in_ok-outer.ensures.depth
    c.in_ok-outer.ensures.names c.in_ok-outer.ensures.entered c.in_ok-found.ensures.past c.leave.ensures

pub check_statement-returns-in_ok-inner-in-For-clause-past : goal.check_statement-returns-in_ok-inner-in-For-clause-past
check_statement-returns-in_ok-inner-in-For-clause-past t c =
    let h : Here = here_of c.args.here.now in
    let first : Perhaps = perhaps_of (option_map (λ s. stmt_tree s.value) c.in-For.first) in
    let body = stmt_tree c.in-For.body.value in
    let whole : line_tree c.args.s.now.kind ≡ For first (option_map expr_tree c.in-For.e) (option_map expr_tree c.in-For.third) body =
    ap line_tree c.in-For.is ∙ for_tree c.in-For.first c.in-For.e c.in-For.third c.in-For.body in
    for_left h (here_of c.enter.new.here) (here_of c.check_perhaps-in-For.new.here) (here_of c.check_statement-in-For.new.here) (here_of c.leave.new.here)
    first body c.in_ok-outer-in-For.outer.depth c.in_ok-outer-in-For.outer.names c.in_ok-outer-in-For.ensures.depth c.in_ok-outer-in-For.ensures.names
    c.in_ok-outer-in-For.ensures.entered c.in_ok-start-in-For.ensures.past
    (c.in_ok-inner-in-For.ensures.past ∙ ap (λ s. past (here_of c.check_perhaps-in-For.new.here) (stmt_tree s)) c.deref-in-For.ensures) c.leave.ensures
    ∙ ap (λ k. past_kind h k) (sym whole) ∙ ap (λ s. past h s) (sym (line_of c.args.s.now))

pub check_cases-loop-line-preserved : goal.check_cases-loop-line-preserved
check_cases-loop-line-preserved t c = record {
  past = lines_past_more (here_of c.loop-line.here) (here_of c.check_statement.new.here) c.args.lines.now c.loop-line.line-index c.line-item.result
      c.loop-line-test.true c.line-item.is c.in_ok-fault.ensures.past ∙ c.loop-line.invariant.past;
  faults = lines_fault_more (the_surroundings c.args.around) (here_of c.loop-line.here) (here_of c.check_statement.new.here) c.args.lines.now
      c.loop-line.line-index c.line-item.result c.loop-line.found.lines c.in_ok-fault.fault c.earlier.result c.loop-line-test.true c.line-item.is
      c.in_ok-fault.ensures.past c.in_ok-fault.ensures.fault c.earlier.ensures ∙ c.loop-line.invariant.faults;
  labels = labels_more c.args.kind (here_of c.loop-line.here) (here_of c.check_statement.new.here) (seen_of c.loop-line.seen) (seen_of c.note.new.seen)
      c.args.lines.now c.loop-line.line-index c.line-item.result (option_map label_at c.label_of.result) c.loop-line.found.labels c.in_ok-again.again
      c.earlier-in-loop-line.result c.loop-line-test.true c.line-item.is c.in_ok-fault.ensures.past c.label_of.ensures c.in_ok-again.ensures.fault
      c.in_ok-again.ensures.after c.earlier-in-loop-line.ensures ∙ c.loop-line.invariant.labels;
}
