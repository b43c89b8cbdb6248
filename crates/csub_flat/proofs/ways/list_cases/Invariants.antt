use Rattle.std.proofs.Common.{All}
use Rattle.csub_semantics.specs.Points.{on_case}
use Rattle.csub_semantics.specs.Syntax.{program_tree}
use Rattle.csub_flat.specs.Ways.{LeadsTo}
use Rattle.csub_flat.proofs.Choices.{ListsBefore}
use Rattle.csub_flat.proofs.ways.list_cases.Given as goal

-- the cases of the edges before this one are listed
abbrev pub invariant-loop-edge : goal.invariant-loop-edge
invariant-loop-edge l = record {
  each : All (λ r. LeadsTo (program_tree l.program) l.point (on_case r.value) r.way) l.rows.items;
  listed : ListsBefore (program_tree l.program) l.point l.rows.items l.edge;
}
