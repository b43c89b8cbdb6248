use Rattle.std.proofs.Common.{◌≡◌, ◌∙◌, ◌+◌, ap, sym, map}
use Rattle.std.specs.Option.{option_map}
use Rattle.csub_semantics.specs.Labels.{label_tree}
use Rattle.csub_semantics.specs.Syntax.{PartTree, call_stage, own_stage, part_tree}
use Rattle.csub_resolution.specs.Programs.{part_temps}
use Rattle.csub_nodes.proofs.Most.{temps_append, told}
use Rattle.csub_nodes.proofs.temps.part_temps.Goals as goal

pub returns : goal.returns
returns c =
    let part = c.args.part.now in
    let stages : PartTree = map (call_stage part.span) part.calls.items in
    let own : PartTree = own_stage part.span (option_map label_tree part.main) in
    let calls : c.in_ok-calls.calls ≡ part_temps stages = c.in_ok-calls.ensures ∙ ap (λ xs. part_temps (map (call_stage part.span) xs)) c.as_slice.ensures.value in
    told c.sum.result (c.in_ok-calls.calls + c.own_temps.result) (part_temps (part_tree part)) c.sum.ensures
    (ap (λ n. n + c.own_temps.result) calls ∙ ap (λ n. part_temps stages + n) c.own_temps.ensures ∙ sym (temps_append stages own))
