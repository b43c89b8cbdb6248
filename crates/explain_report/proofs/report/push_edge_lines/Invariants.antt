use Rattle.std.proofs.Common.{ℕ, List, ◌++◌}
use Rattle.line_text.specs.Lines.{text_of_lines}
use Rattle.csub_semantics.specs.Syntax.{ProgramTree}
use Rattle.csub_semantics.specs.Flows.{edge_list}
use Rattle.flow_graph.specs.Graph.{IsGraphOf}
use Rattle.source_place.specs.Lines.{IsTableOf}
use Rattle.explain_report.specs.WalkTexts.{edge_lines}
use Rattle.explain_report.proofs.EdgeLemmas.{Makes}
use Rattle.explain_report.proofs.report.push_edge_lines.Given as goal

abbrev pub invariant-loop-edge : goal.invariant-loop-edge
invariant-loop-edge l = (P : ProgramTree) (source : List ℕ) → IsGraphOf l.old P → IsTableOf source l.lines
    → Makes P source l.row (edge_list P) l.edge l.text.items (l.fn.text.items ++ text_of_lines (edge_lines P source l.row 0 (edge_list P)))
