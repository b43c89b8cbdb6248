use Rattle.std.proofs.Common.{take}
use Rattle.explain_report.specs.Marks.{AddsMarks}
use Rattle.explain_report.proofs.marks.mark_wanted.Given as goal

abbrev pub invariant-loop-place : goal.invariant-loop-place
invariant-loop-place l = AddsMarks l.fn.marks l.marks (take l.place-index l.wanted)
