use Rattle.std.proofs.Common.{◌++◌}
use Rattle.line_text.specs.Lines.{text_of_lines}
use Rattle.csub_semantics.specs.Syntax.{ProgramTree}
use Rattle.flow_graph.specs.Graph.{IsGraphOf}
use Rattle.explain_report.specs.Explanations.{fact_lines}
use Rattle.explain_report.proofs.ToldLemmas.{MakesFacts}
use Rattle.explain_report.proofs.told.push_fact_lines.Given as goal

abbrev pub invariant-loop-place : goal.invariant-loop-place
invariant-loop-place l = (P : ProgramTree) → IsGraphOf l.old P → MakesFacts P l.facts l.place l.text.items (l.fn.text.items ++ text_of_lines (fact_lines P 0 l.facts))
