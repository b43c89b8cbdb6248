use Rattle.std.proofs.Common.{◌≡◌, ◌≤◌, ◌++◌, Some}
use Rattle.std.specs.Prelude.{slice_get}
use Rattle.line_text.specs.Lines.{text_of_lines}
use Rattle.csub_semantics.specs.Syntax.{ProgramTree}
use Rattle.csub_semantics.specs.Flows.{PlacedNode, point_list, edges_from}
use Rattle.flow_graph.specs.Graph.{IsGraphOf, edge_count}
use Rattle.points_report.specs.PointTexts.{edge_lines, first_edge}
use Rattle.points_report.proofs.Told.{MakesEdges}
use Rattle.points_report.proofs.edge.push_edge_lines.Given as goal

abbrev pub invariant-loop-edge : goal.invariant-loop-edge
invariant-loop-edge l = record {
  can : goal.iterator-loop-edge.can_next l.edge-iterator;
  finite : goal.iterator-loop-edge.is_finite l.edge-iterator;
  within : l.edge-iterator.end ≤ edge_count l.graph;
  made : (P : ProgramTree) (n : PlacedNode) → IsGraphOf l.graph P → slice_get (point_list P) l.point ≡ Some n
      → MakesEdges P l.point (edges_from n) l.edge-iterator.start l.edge-iterator.end l.text.items
      (l.fn.text.items ++ text_of_lines (edge_lines P l.point (first_edge P l.point) (edges_from n)));
}
