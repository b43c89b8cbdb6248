use Rattle.std.proofs.Common.{◌∙◌, ap}
use Rattle.csub_semantics.specs.Trees.{expr_tree}
use Rattle.csub_semantics.proofs.LawsRows.{expr_tree-Printf}
use Rattle.csub_lower.proofs.node.formatted_node.Goals as goal

pub returns-clause-value : goal.returns-clause-value
returns-clause-value c = ap expr_tree c.in_ok-value.ensures ∙ expr_tree-Printf c.args.pieces c.args.values
