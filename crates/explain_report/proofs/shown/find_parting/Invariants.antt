use Rattle.std.proofs.Common.{◌≡◌, ◌<◌, ℕ, Some}
use Rattle.std.specs.Prelude.{slice_get}
use Rattle.csub_objects.specs.Types.{Name}
use Rattle.csub_semantics.specs.Points.{PointTree, exit_tree}
use Rattle.csub_semantics.specs.Syntax.{ProgramTree}
use Rattle.csub_semantics.specs.Numbers.{site, site_at}
use Rattle.flow_graph.specs.Graph.{IsGraphOf}
use Rattle.dual_walk.specs.declared.fact.Fact.{Fact}
use Rattle.explain_report.specs.Dangers.{LeadsToNone}
use Rattle.explain_report.proofs.shown.find_parting.Given as goal

abbrev pub invariant-loop-place : goal.invariant-loop-place
invariant-loop-place l = (i : ℕ) (c : Fact) (P' : ProgramTree) (f : Name) (p' : PointTree) → i < l.place → slice_get l.facts i ≡ Some c → c.old ≡ l.from → IsGraphOf l.new P'
    → site_at P' c.new ≡ Some (site f p') → LeadsToNone P' l.partners f p' (exit_tree l.exit) → ⊥
