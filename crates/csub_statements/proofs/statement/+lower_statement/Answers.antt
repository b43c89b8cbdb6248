use Rattle.std.proofs.Common.{◌≡◌, ◌∙◌, ◌++◌, ap, sym, map, option_map, arith}
use Rattle.csub_tree.specs.Expressions.{expr_tree}
use Rattle.csub_tree.specs.Statements.{Perhaps, For, perhaps_of, line_tree, stmt_tree, stmts_of}
use Rattle.csub_semantics.specs.Syntax.{local_tree}
use Rattle.csub_semantics.specs.Syntax.{stmt_tree as made_tree}
use Rattle.csub_rules.specs.Here.{Here}
use Rattle.csub_rules.specs.Past.{past, past_kind}
use Rattle.csub_bodies.specs.Views.{here_of}
use Rattle.csub_bodies.proofs.LawsGrows.{block_left, for_left}
use Rattle.csub_resolution.specs.Lines.{locals, locals_kind}
use Rattle.csub_statements.proofs.Lines.{always, for_locals, lines_done}
use Rattle.csub_bodies.proofs.LawsTrees.{for_tree, line_of}
use Rattle.csub_statements.proofs.statement.+lower_statement.Goals as goal

pub lower_block-returns-clause-past : goal.lower_block-returns-clause-past
lower_block-returns-clause-past t c =
    always c.block_node.result (block_left (here_of c.args.here.now) (here_of c.enter.new.here) (here_of c.lower_lines.new.here)
    (here_of c.leave.new.here) (stmts_of (map stmt_tree c.args.lines.now)) c.in_ok-outer.outer.depth c.in_ok-outer.outer.names
    c.in_ok-outer.ensures.depth c.in_ok-outer.ensures.names c.in_ok-outer.ensures.entered c.in_ok-made.ensures.past c.leave.ensures)

pub lower_switch-returns-clause-past : goal.lower_switch-returns-clause-past
lower_switch-returns-clause-past t c =
    always c.switch_node.result (block_left (here_of c.args.here.now) (here_of c.enter.new.here) (here_of c.lower_lines.new.here)
    (here_of c.leave.new.here) (stmts_of (map stmt_tree c.args.lines.now)) c.in_ok-outer.outer.depth c.in_ok-outer.outer.names
    c.in_ok-outer.ensures.depth c.in_ok-outer.ensures.names c.in_ok-outer.ensures.entered c.in_ok-made.ensures.past c.leave.ensures)

pub lower_lines-returns-clause-lines : goal.lower_lines-returns-clause-lines
lower_lines-returns-clause-lines t c =
    lines_done c.args.within.definitions.now c.args.within.result c.args.kind (here_of c.args.here.now) (here_of c.loop-line.here)
    c.loop-line.line-index c.args.lines.now (map made_tree c.loop-line.made.items) (omega (arith, c.loop-line-test.false)) c.loop-line.invariant.trees

pub lower_statement-returns-in_ok-inner-in-For-clause-past : goal.lower_statement-returns-in_ok-inner-in-For-clause-past
lower_statement-returns-in_ok-inner-in-For-clause-past t c =
    let h : Here = here_of c.args.here.now in
    let first : Perhaps = perhaps_of (option_map (λ s. stmt_tree s.value) c.in-For.first) in
    let body = stmt_tree c.in-For.body.value in
    let whole : line_tree c.args.s.now.kind ≡ For first (option_map expr_tree c.in-For.e) (option_map expr_tree c.in-For.third) body =
    ap line_tree c.in-For.is ∙ for_tree c.in-For.first c.in-For.e c.in-For.third c.in-For.body in
    always c.for_node.result
    (for_left h (here_of c.enter.new.here) (here_of c.lower_first.new.here) (here_of c.lower_statement-in-For.new.here) (here_of c.leave.new.here)
    first body c.in_ok-outer-in-For.outer.depth c.in_ok-outer-in-For.outer.names c.in_ok-outer-in-For.ensures.depth c.in_ok-outer-in-For.ensures.names
    c.in_ok-outer-in-For.ensures.entered c.in_ok-first-in-For.ensures.past
    (c.in_ok-inner-in-For.ensures.past ∙ ap (λ s. past (here_of c.lower_first.new.here) (stmt_tree s)) c.deref-in-For.ensures) c.leave.ensures
    ∙ ap (λ k. past_kind h k) (sym whole) ∙ ap (λ s. past h s) (sym (line_of c.args.s.now)))

pub lower_statement-returns-in_ok-inner-in-For-clause-locals : goal.lower_statement-returns-in_ok-inner-in-For-clause-locals
lower_statement-returns-in_ok-inner-in-For-clause-locals t c =
    let h : Here = here_of c.args.here.now in
    let old = map local_tree c.args.locals.now.items in
    let inside = map local_tree c.lower_first.new.locals.items in
    let first : Perhaps = perhaps_of (option_map (λ s. stmt_tree s.value) c.in-For.first) in
    let body = stmt_tree c.in-For.body.value in
    let whole : line_tree c.args.s.now.kind ≡ For first (option_map expr_tree c.in-For.e) (option_map expr_tree c.in-For.third) body =
    ap line_tree c.in-For.is ∙ for_tree c.in-For.first c.in-For.e c.in-For.third c.in-For.body in
    always c.for_node.result
    (for_locals h (here_of c.enter.new.here) (here_of c.lower_first.new.here) first body old inside (map local_tree c.lower_statement-in-For.new.locals.items)
    c.in_ok-outer-in-For.ensures.entered c.in_ok-first-in-For.ensures.past c.in_ok-first-in-For.ensures.locals
    (c.in_ok-inner-in-For.ensures.locals ∙ ap (λ s. inside ++ locals (here_of c.lower_first.new.here) (stmt_tree s)) c.deref-in-For.ensures)
    ∙ ap (λ k. old ++ locals_kind h k) (sym whole) ∙ ap (λ s. old ++ locals h s) (sym (line_of c.args.s.now)))
