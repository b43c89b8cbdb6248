use Rattle.std.proofs.Common.{◌∙◌, IfOk, sym, subst}
use Rattle.csub_semantics.specs.Syntax.{program_tree}
use Rattle.explain_report.specs.Walks.{IsWalkText}
use Rattle.flow_graph.proofs.LawsPlaces.{edges_counted}
use Rattle.command_runs.proofs.walked.report.Goals as goal

pub walk_text-requires-clause-row : goal.walk_text-requires-clause-row
walk_text-requires-clause-row c =
    let P = program_tree c.args.versions.now.old in
    let walk = c.in_ok-walked.ensures P (program_tree c.args.versions.now.new) c.in_ok-graphs.ensures.old c.in_ok-graphs.ensures.new in
    walk.edges ∙ sym (edges_counted c.in_ok-graphs.graphs.old P c.in_ok-graphs.ensures.old)

pub returns : goal.returns
returns c =
    let P = program_tree c.args.versions.now.old in
    let P' = program_tree c.args.versions.now.new in
    let walk = c.in_ok-walked.ensures P P' c.in_ok-graphs.ensures.old c.in_ok-graphs.ensures.new in
    subst (λ source. IfOk c.walk_text.result (λ text. IsWalkText source P P' text.items)) c.deref.ensures.value
    (c.walk_text.ensures.meant P P' c.in_ok-graphs.ensures.old c.in_ok-graphs.ensures.new.valid walk)
