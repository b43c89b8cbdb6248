use Rattle.std.proofs.Common.{◌∙◌, ap}
use Rattle.std.proofs.lemmas.Result.{IfOk-weaker}
use Rattle.csub_semantics.specs.Syntax.{stmt_tree}
use Rattle.csub_semantics.proofs.LawsRows.{stmt_tree-Block}
use Rattle.csub_nodes.proofs.node.block_node.Goals as goal

pub returns : goal.returns
returns c = IfOk-weaker c.boxed.result _ _ (λ made is. ap stmt_tree is ∙ stmt_tree-Block c.args.lines) c.boxed.ensures
