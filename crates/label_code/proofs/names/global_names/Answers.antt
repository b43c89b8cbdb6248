use Rattle.std.proofs.Common.{ap, ap₂, map, rules, ◌∙◌}
use Rattle.std.specs.List.{flat_map}
use Rattle.csub_semantics.specs.Labels.{label_tree}
use Rattle.csub_semantics.specs.Globals.{ordered}
use Rattle.label_code.specs.Uses.{use_names, use_tree}
use Rattle.label_code.proofs.NameLemmas.{label_globals}
use Rattle.label_code.proofs.names.global_names.Goals as goal

pub returns : goal.returns
returns c =
    let names = ap (λ uses. flat_map use_names (map use_tree uses)) c.deref.ensures.value ∙ ap (flat_map use_names) c.in_ok-uses.ensures ∙ label_globals (label_tree c.args.label.now) in
    c.in_ok-add_uses.ensures ∙ ap₂ ordered (search rules) names
