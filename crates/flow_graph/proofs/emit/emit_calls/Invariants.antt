use Rattle.std.proofs.Common.{◌≡◌, ◌+◌, ◌++◌, map, reverse, length, drop}
use Rattle.csub_semantics.specs.Syntax.{call_stage}
use Rattle.flow_graph.specs.Numbers.{numbered_way, numbered_node, part_numbered, ways_before}
use Rattle.flow_graph.proofs.emit.emit_calls.Given as goal

abbrev pub invariant-loop-k : goal.invariant-loop-k
invariant-loop-k l =
    record {
      place : l.first + length l.calls ≡ l.end + l.k;
      onward : map numbered_way l.ways.items ≡ ways_before (map (call_stage l.fn.span) (drop l.k l.calls)) l.first (map numbered_way l.fn.ways.items);
      points : map numbered_node l.out.items ≡ map numbered_node l.initial.out.items ++ reverse (part_numbered (map (call_stage l.fn.span) (drop l.k l.calls)) l.k l.first l.spot.path.now l.spot.part (map numbered_way l.fn.ways.items));
    }
