use Rattle.std.proofs.Common.{◌≡◌, ◌≤◌, ℕ, Some}
use Rattle.csub_semantics.specs.Syntax.{program_tree}
use Rattle.flow_graph.specs.Graph.{source_at}
use Rattle.csub_flat.specs.Sites.{place_of}
use Rattle.csub_flat.proofs.Choices.{IsNoDefault}
use Rattle.csub_flat.proofs.ways.default_way.Given as goal

-- no edge of the point from here on is a Default
abbrev pub invariant-loop-edge : goal.invariant-loop-edge
invariant-loop-edge l = (e : ℕ) → l.edge ≤ e → source_at (program_tree l.program) e ≡ Some (place_of (program_tree l.program) l.point) → IsNoDefault (program_tree l.program) e
