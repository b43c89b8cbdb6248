use Rattle.std.proofs.Common.{rules, arith, ◌-◌, ◌<◌, ap, length}
use Rattle.csub_semantics.specs.declared.function.RStmt.{the_lemmas}
use denote.Param.Weighed.{at_most}
use Rattle.csub_semantics.proofs.LawsRows.{stmt_size, row_trees-list}
use Rattle.flow_graph.proofs.Rows.{room_back}
use Rattle.flow_graph.proofs.marks.+mark.Goals as goal

pub mark_list-mark-requires : goal.mark_list-mark-requires
mark_list-mark-requires t c =
    let room = room_back c.args.stmts.now c.loop-i.i c.loop-i.first c.args.end c.index-stmts-i.result c.loop-i-test.true c.loop-i.auto.i c.index-stmts-i.is c.loop-i.invariant.place c.requires in
    let below : c.loop-i.i - 1 < length c.args.stmts.now = omega arith in
    let less = at_most stmt_size c.args.stmts.now (c.loop-i.i - 1) c.index-stmts-i.result below in
    let same = ap stmt_size c.index-stmts-i.is in
    (search rules, room)

pub mark-mark_list-requires : goal.mark-mark_list-requires
mark-mark_list-requires t c = search (rules, row_trees-list, the_lemmas)

pub mark-returns-in-Block-clause-first : goal.mark-returns-in-Block-clause-first
mark-returns-in-Block-clause-first t c = search (rules, row_trees-list, the_lemmas)

pub mark-returns-in-Block-clause-enter : goal.mark-returns-in-Block-clause-enter
mark-returns-in-Block-clause-enter t c = search (rules, row_trees-list, the_lemmas)

pub mark-returns-in-Block-clause-marks : goal.mark-returns-in-Block-clause-marks
mark-returns-in-Block-clause-marks t c = search (rules, row_trees-list, the_lemmas)

pub mark-mark_switch-requires : goal.mark-mark_switch-requires
mark-mark_switch-requires t c = search (rules, row_trees-list, the_lemmas)

pub mark-returns-in-Switch-clause-first : goal.mark-returns-in-Switch-clause-first
mark-returns-in-Switch-clause-first t c = search (rules, row_trees-list, the_lemmas)

pub mark-returns-in-Switch-clause-marks : goal.mark-returns-in-Switch-clause-marks
mark-returns-in-Switch-clause-marks t c = search (rules, row_trees-list, the_lemmas)
