use Rattle.std.proofs.Common.{◌∙◌}
use Rattle.std.specs.Option.{option_map}
use Rattle.csub_semantics.specs.Labels.{label_tree}
use Rattle.csub_decisions.proofs.ValidStmts.{declares_own}
use Rattle.csub_decisions.proofs.valid.statements.declares.Goals as goal

pub returns : goal.returns
returns c =
    let part = c.args.part.now in
    c.is_declared.ensures ∙ declares_own part.calls.items part.span (option_map label_tree part.main)
