use Rattle.std.proofs.Common.{◌∙◌}
use Rattle.std.specs.Option.{option_map}
use Rattle.csub_semantics.specs.Labels.{label_tree}
use Rattle.csub_limits.proofs.Counting.{last_count-own}
use Rattle.csub_limits.proofs.counts.last_ways.Goals as goal

pub returns : goal.returns
returns c =
    let part = c.args.part.now in
    c.own_ways.ensures ∙ last_count-own part.calls.items part.span (option_map label_tree part.main)
