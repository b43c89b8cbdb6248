use Rattle.std.proofs.Common.{◌≡◌, ◌+◌, ◌++◌, map, reverse, drop}
use Rattle.csub_semantics.specs.Syntax.{part_tree}
use Rattle.flow_graph.specs.Numbers.{around, numbered_node, enter_parts, parts_numbered}
use Rattle.flow_graph.proofs.Rows.{parts_from}
use Rattle.flow_graph.proofs.emit.emit_parts.Given as goal

abbrev pub invariant-loop-i : goal.invariant-loop-i
invariant-loop-i l =
    record {
      place : l.first + parts_from l.parts l.i ≡ l.end;
      begins : l.enter ≡ enter_parts (map part_tree (drop l.i l.parts)) l.first l.onward.leave;
      points : map numbered_node l.out.items ≡ map numbered_node l.initial.out.items ++ reverse (parts_numbered (map part_tree (drop l.i l.parts)) (l.from + l.i) l.first l.path (around l.onward));
    }
