use Rattle.explain_report.proofs.PartLemmas.{IsPartTo}
use Rattle.explain_report.proofs.part.keep.Given as goal

abbrev pub invariant-loop-place : goal.invariant-loop-place
invariant-loop-place l = IsPartTo l.facts l.marks l.place l.kept.items l.table.items
