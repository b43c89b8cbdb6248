use Rattle.std.proofs.Common.{◌≡◌, []}
use Rattle.csub_semantics.specs.Successors.{case_values, rising}
use Rattle.flow_graph.proofs.Rows.{lines_from}
use Rattle.flow_graph.proofs.cases.rising_values.Given as goal

abbrev pub invariant-loop-stmt : goal.invariant-loop-stmt
invariant-loop-stmt l = rising l.values.keys (case_values (lines_from l.stmts l.stmt-index)) ≡ rising [] (case_values (lines_from l.stmts 0))

abbrev pub invariant-loop-value : goal.invariant-loop-value
invariant-loop-value l = l.made.items ≡ l.yielded
