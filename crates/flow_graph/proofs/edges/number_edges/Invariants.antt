use Rattle.std.proofs.Common.{◌≡◌, ◌++◌, ◌+◌, drop, length}
use Rattle.std.specs.Prelude.{sum_by}
use Rattle.flow_graph.specs.Graph.{way_count, firsts_of, sources_of}
use Rattle.flow_graph.proofs.edges.number_edges.Given as goal

abbrev pub invariant-loop-i : goal.invariant-loop-i
invariant-loop-i l =
    record {
      count : length l.sources.items + sum_by way_count (drop l.i l.points) ≡ sum_by way_count l.points;
      firsts : l.firsts.items ++ firsts_of (drop l.i l.points) (length l.sources.items) ≡ firsts_of l.points 0;
      sources : l.sources.items ++ sources_of (drop l.i l.points) l.i ≡ sources_of l.points 0;
    }
