use Rattle.std.proofs.Common.{◌≡◌, ◌+◌}
use Rattle.flow_graph.specs.Numbers.{count_list}
use Rattle.flow_graph.proofs.Rows.{lines_from}
use Rattle.flow_graph.proofs.count.+count.Given as goal

abbrev pub invariant-count_all-loop-stmt : goal.invariant-count_all-loop-stmt
invariant-count_all-loop-stmt l =
    l.sum + count_list (lines_from l.stmts l.stmt-index) ≡ count_list (lines_from l.stmts 0)
