use Rattle.std.proofs.Common.{◌∙◌, ap, map}
use Rattle.std.proofs.lemmas.Result.{IfOk-weaker}
use Rattle.csub_semantics.specs.Syntax.{part_tree, stmt_tree, stmts_of, switch_on}
use Rattle.csub_semantics.proofs.LawsRows.{stmt_tree-Switch}
use Rattle.csub_nodes.proofs.node.switch_node.Goals as goal

pub returns : goal.returns
returns c =
    let tree = stmt_tree-Switch c.into_inner.result c.args.lines ∙ ap (λ p. switch_on (part_tree p) (stmts_of (map stmt_tree c.args.lines.items))) c.into_inner.ensures in
    IfOk-weaker c.boxed.result _ _ (λ made is. ap stmt_tree is ∙ tree) c.boxed.ensures
