use Rattle.std.proofs.Common.{◌≡◌, ◌<◌, ℕ, Some}
use Rattle.std.specs.Prelude.{slice_get}
use Rattle.csub_semantics.specs.Points.{exit}
use Rattle.csub_semantics.specs.Syntax.{ProgramTree}
use Rattle.flow_graph.specs.Graph.{IsGraphOf}
use Rattle.dual_walk.specs.declared.fact.Fact.{Fact}
use Rattle.dual_walk.specs.Held.{AreAt}
use Rattle.explain_report.specs.Dangers.{AreNamed}
use Rattle.explain_report.proofs.shown.find_exits.Given as goal

abbrev pub invariant-loop-place : goal.invariant-loop-place
invariant-loop-place l = (P P' : ProgramTree) (i : ℕ) (c : Fact) → IsGraphOf l.old P → IsGraphOf l.new P' → AreNamed P P' l.facts → i < l.place → slice_get l.facts i ≡ Some c
    → AreAt P P' c.old c.new l.name exit exit → ⊥
