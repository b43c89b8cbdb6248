use Rattle.std.proofs.Common.{◌≡◌, ◌+◌}
use Rattle.flow_graph.proofs.Rows.{parts_from}
use Rattle.flow_graph.proofs.count.count_parts_of.Given as goal

abbrev pub invariant-loop-part : goal.invariant-loop-part
invariant-loop-part l = l.sum + parts_from l.parts l.part-index ≡ parts_from l.parts 0
