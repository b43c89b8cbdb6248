use Rattle.std.proofs.Common.{rules}
use Rattle.csub_semantics.specs.declared.function.RStmt.{the_lemmas}
use Rattle.csub_semantics.proofs.LawsRows.{row_trees-list}
use Rattle.flow_graph.proofs.count.+count.Goals as goal

pub count_of-count_all-requires : goal.count_of-count_all-requires
count_of-count_all-requires t c = search (rules, row_trees-list, the_lemmas)

pub count_of-returns-in-Block : goal.count_of-returns-in-Block
count_of-returns-in-Block t c = search (rules, row_trees-list, the_lemmas)

pub count_of-count_all-requires-in-Switch : goal.count_of-count_all-requires-in-Switch
count_of-count_all-requires-in-Switch t c = search (rules, row_trees-list, the_lemmas)

pub count_of-overflow_add-result-in-Switch : goal.count_of-overflow_add-result-in-Switch
count_of-overflow_add-result-in-Switch t c = search (rules, row_trees-list, the_lemmas)

pub count_of-returns-in-Switch : goal.count_of-returns-in-Switch
count_of-returns-in-Switch t c = search (rules, row_trees-list, the_lemmas)
