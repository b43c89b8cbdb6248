use Rattle.std.proofs.Common.{◌≡◌, length}
use Rattle.csub_semantics.specs.Syntax.{ProgramTree}
use Rattle.flow_graph.specs.Graph.{IsGraphOf, edge_count}
use Rattle.edge_images.specs.Partly.{IsImageBefore, Answers}
use Rattle.edge_images.proofs.finding.images.Given as goal

abbrev pub invariant-loop-from : goal.invariant-loop-from
invariant-loop-from l = record {
  edges : length l.images.items ≡ edge_count l.old;
  noted : (P P' : ProgramTree) → IsGraphOf l.old P → IsGraphOf l.new P' → Answers l.images.items (IsImageBefore P P' l.walked.facts.items l.from-index);
}
