use Rattle.std.proofs.Common.{rules, arith, ◌≡◌, ◌+◌, ◌-◌, ◌<◌, ◌∙◌, ap, map, length}
use Rattle.csub_semantics.specs.declared.function.RStmt.{the_lemmas}
use denote.Param.Weighed.{at_most}
use Rattle.csub_semantics.specs.Syntax.{part_tree, stmt_tree}
use Rattle.flow_graph.specs.Jumps.{jump_by}
use Rattle.flow_graph.specs.Numbers.{around, count_parts, count_head, enter_part, enter_parts}
use Rattle.flow_graph.proofs.Emitted.{for_emitted}
use Rattle.csub_semantics.proofs.LawsRows.{stmt_size, row_trees-list}
use Rattle.flow_graph.proofs.Rows.{room_back}
use Rattle.flow_graph.proofs.emit.+emit.Goals as goal

pub emit-emit_list-requires : goal.emit-emit_list-requires
emit-emit_list-requires t c = search (rules, row_trees-list, the_lemmas)

pub emit-returns-in-Block-clause-first : goal.emit-returns-in-Block-clause-first
emit-returns-in-Block-clause-first t c = search (rules, row_trees-list, the_lemmas)

pub emit-returns-in-Block-clause-enter : goal.emit-returns-in-Block-clause-enter
emit-returns-in-Block-clause-enter t c = search (rules, row_trees-list, the_lemmas)

pub emit-returns-in-Block-clause-nodes : goal.emit-returns-in-Block-clause-nodes
emit-returns-in-Block-clause-nodes t c = search (rules, row_trees-list, the_lemmas)

pub emit_lines-emit_inner-requires : goal.emit_lines-emit_inner-requires
emit_lines-emit_inner-requires t c =
    let room = room_back c.args.stmts.now c.loop-i.i c.loop-i.first c.args.end c.index-stmts-i.result c.loop-i-test.true c.loop-i.auto.i c.index-stmts-i.is c.loop-i.invariant.place c.requires in
    let below : c.loop-i.i - 1 < length c.args.stmts.now = omega arith in
    let less = at_most stmt_size c.args.stmts.now (c.loop-i.i - 1) c.index-stmts-i.result below in
    let same = ap stmt_size c.index-stmts-i.is in
    (search rules, room)

pub emit_for-returns-clause-nodes : goal.emit_for-returns-clause-nodes
emit_for-returns-clause-nodes t c =
    let begin = map part_tree c.args.head.first.now in
    let test = part_tree c.args.head.test.now in
    let third = map part_tree c.args.head.third.now in
    let again = c.begin_again-again.result in
    let first = c.in_ok-begin.begin.first in
    let at_end : first + count_head begin test third ≡ c.in_ok-begun.begun.first = c.in_ok-begin.ensures.first in
    let at_body : c.args.end - c.count_of.result ≡ c.in_ok-begun.begun.first = omega (arith, c.in_ok-begun.ensures.first, c.count_of.ensures) in
    let at_third : again.third.first ≡ first + count_parts begin + length test = omega (arith, at_end, at_body, c.begin_again-again.ensures.third_first) in
    let at_test : again.test.first ≡ first + count_parts begin = omega (arith, at_third, c.begin_again-again.ensures.test_first) in
    let onward =
    c.begin_again-again.ensures.third_enter
    ∙ ap (λ e. enter_parts third again.third.first e) c.begin_again-again.ensures.test_enter
    ∙ ap (λ k. enter_parts third again.third.first (enter_part test k c.args.around.onward.leave)) at_test
    ∙ ap (λ k. enter_parts third k (enter_part test (first + count_parts begin) c.args.around.onward.leave)) at_third in
    for_emitted begin test third (stmt_tree c.args.body.now) first c.args.path.now (jump_by c.args.around.jumps.now) (around c.args.around.onward) (around c.looping.result) c.in_ok-begun.begun.enter c.in_ok-begun.begun.first again.third.enter _ _ _ at_end c.looping.ensures onward c.in_ok-begun.ensures.enter c.in_ok-begun.ensures.nodes c.in_ok-begin.ensures.nodes

pub emit-emit_switch-requires : goal.emit-emit_switch-requires
emit-emit_switch-requires t c = search (rules, row_trees-list, the_lemmas)

pub emit-returns-in-Switch-clause-first : goal.emit-returns-in-Switch-clause-first
emit-returns-in-Switch-clause-first t c = search (rules, row_trees-list, the_lemmas)

pub emit-returns-in-Switch-clause-nodes : goal.emit-returns-in-Switch-clause-nodes
emit-returns-in-Switch-clause-nodes t c = search (rules, row_trees-list, the_lemmas)
