use Rattle.std.proofs.Common.{ℕ, IsTrue, List, ◌↔◌}
use Rattle.std.specs.Prelude.{Contains}
use Rattle.edge_trace.specs.Rows.{has}
use Rattle.explain_report.proofs.MarkLemmas.{MarkedFrom}
use Rattle.explain_report.proofs.marks.mark_rest.Given as goal

abbrev pub invariant-loop-place : goal.invariant-loop-place
invariant-loop-place l = (wanted : List ℕ) → ((i : ℕ) → IsTrue (has l.fn.marks i) ↔ Contains wanted i) → MarkedFrom l.facts wanted l.marks l.place
