use Rattle.std.proofs.Common.{◌++◌}
use Rattle.line_text.specs.Lines.{text_of_lines}
use Rattle.csub_semantics.specs.Syntax.{ProgramTree}
use Rattle.csub_semantics.specs.Flows.{point_list}
use Rattle.flow_graph.specs.Graph.{IsGraphOf}
use Rattle.source_place.specs.Lines.{IsTableOf}
use Rattle.points_report.specs.PointTexts.{point_lines}
use Rattle.points_report.proofs.Told.{MakesPoints}
use Rattle.points_report.proofs.report.push_points.Given as goal

abbrev pub invariant-loop-point : goal.invariant-loop-point
invariant-loop-point l = (P : ProgramTree) → IsGraphOf l.graph P → IsTableOf l.source l.lines
    → MakesPoints P l.source l.point l.text.items (l.fn.text.items ++ text_of_lines (point_lines P l.source 0 (point_list P)))
