use Rattle.std.proofs.Common.{◌≡◌, ◌+◌, ◌++◌, map, reverse}
use Rattle.flow_graph.specs.Numbers.{around, numbered_mark, count_list, enter_list, marks_list}
use Rattle.flow_graph.proofs.Rows.{lines_from}
use Rattle.flow_graph.proofs.marks.+mark.Given as goal

abbrev pub invariant-mark_list-loop-i : goal.invariant-mark_list-loop-i
invariant-mark_list-loop-i l =
    record {
      place : l.first + count_list (lines_from l.stmts l.i) ≡ l.end;
      begins : l.enter ≡ enter_list (lines_from l.stmts l.i) l.first (around l.onward);
      marks : map numbered_mark l.out.items ≡ map numbered_mark l.initial.out.items ++ reverse (marks_list (lines_from l.stmts l.i) l.first (around l.onward));
    }
