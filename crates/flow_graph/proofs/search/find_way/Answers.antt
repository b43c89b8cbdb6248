use Rattle.std.proofs.Common.{◌∙◌, sym}
use Rattle.csub_semantics.specs.Points.{exit_tree, exit_eq}
use Rattle.flow_graph.proofs.LawsLists.{find_here}
use Rattle.flow_graph.proofs.search.find_way.Goals as goal

pub returns-then-same_exit-clause-found : goal.returns-then-same_exit-clause-found
returns-then-same_exit-clause-found c =
    sym (find_here (λ w. exit_eq (exit_tree w.exit) (exit_tree c.args.exit.now)) c.args.ways.now c.loop-i.i c.index-ways-i.result c.loop-i-test.true (sym c.same_exit.ensures ∙ c.if-same_exit.true)) ∙ c.loop-i.invariant
