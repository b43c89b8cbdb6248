use Rattle.std.proofs.Common.{◌∙◌, ap}
use Rattle.std.proofs.lemmas.Result.{IfOk-weaker}
use Rattle.csub_semantics.specs.Labels.{init_tree}
use Rattle.csub_semantics.proofs.LawsRows.{init_tree-List}
use Rattle.csub_nodes.proofs.init.list_value.Goals as goal

pub returns : goal.returns
returns c = IfOk-weaker c.boxed_init.result _ _ (λ made is. ap init_tree is ∙ init_tree-List c.args.values) c.boxed_init.ensures
