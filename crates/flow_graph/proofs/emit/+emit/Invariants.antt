use Rattle.std.proofs.Common.{◌≡◌, ◌+◌, ◌++◌, map, reverse}
use Rattle.flow_graph.specs.Jumps.{jump_by}
use Rattle.flow_graph.specs.Numbers.{around, numbered_node, numbered_way, count_list, enter_list, case_ways, default_to, list_numbered}
use Rattle.flow_graph.proofs.Rows.{lines_from}
use Rattle.flow_graph.proofs.emit.+emit.Given as goal

abbrev pub invariant-emit_lines-loop-i : goal.invariant-emit_lines-loop-i
invariant-emit_lines-loop-i l =
    record {
      place : l.first + count_list (lines_from l.stmts l.i) ≡ l.end;
      begins : l.enter ≡ enter_list (lines_from l.stmts l.i) l.first (around l.around.onward);
      ways : map numbered_way l.cases.ways.items ≡ reverse (case_ways (lines_from l.stmts l.i) l.first (around l.around.onward));
      other : l.cases.other ≡ default_to (lines_from l.stmts l.i) l.first (around l.around.onward);
      points : map numbered_node l.out.items ≡ map numbered_node l.initial.out.items ++ reverse (list_numbered (lines_from l.stmts l.i) l.i l.first l.path (jump_by l.around.jumps.now) (around l.around.onward));
    }
