use Rattle.std.proofs.Common.{◌∙◌, sym}
use Rattle.std.specs.Option.{option_map}
use Rattle.csub_semantics.specs.Labels.{label_tree}
use Rattle.csub_decisions.proofs.ValidCases.{switch_kind-own}
use Rattle.csub_decisions.proofs.valid.cases.switch_kind.Goals as goal

pub returns : goal.returns
returns c =
    let part = c.args.value.now in
    c.own_kind.ensures ∙ sym (switch_kind-own part.calls.items part.span (option_map label_tree part.main))
