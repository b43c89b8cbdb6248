use Rattle.std.proofs.Common.{◌≡◌, ℕ, length, Some}
use Rattle.std.specs.Prelude.{slice_get}
use Rattle.csub_semantics.specs.Syntax.{ProgramTree}
use Rattle.csub_semantics.specs.Numbers.{Site, site_at}
use Rattle.edge_label.specs.declared.standing.Standing.{Standing}
use Rattle.flow_graph.specs.Graph.{IsGraphOf}
use Rattle.dual_walk.specs.LabelRows.{StandsAt}
use Rattle.dual_walk.proofs.both.list_labels.Given as goal

-- the labels of the points so far
abbrev pub invariant-loop-point : goal.invariant-loop-point
invariant-loop-point l = record {
  points : length l.labels.items ≡ l.point;
  each : (n : ℕ) (standing : Standing) (P : ProgramTree) (place : Site) → slice_get l.labels.items n ≡ Some standing → IsGraphOf l.graph P → site_at P n ≡ Some place
      → StandsAt P place standing;
}
