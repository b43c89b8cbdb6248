use Rattle.std.proofs.Common.{◌≡◌, ◌+◌, ◌-◌, ◌++◌, ◌∙◌, ◌∷◌, [], ap, sym, map, length, reverse}
use Rattle.std.specs.Option.{option_map}
use Rattle.csub_semantics.specs.Labels.{label_tree}
use Rattle.csub_semantics.specs.Points.{at}
use Rattle.csub_semantics.specs.Syntax.{Stage, call_stage, own_stage}
use Rattle.flow_graph.specs.Numbers.{numbered_node, numbered_way, part_numbered}
use Rattle.flow_graph.proofs.Emitted.{stages_emitted, call_count}
use Rattle.flow_graph.proofs.emit.emit_stages.Goals as goal

pub returns-in_ok-first-in-Some-clause-nodes : goal.returns-in_ok-first-in-Some-clause-nodes
returns-in_ok-first-in-Some-clause-nodes c =
    let part = c.args.part.now in
    let path = c.args.spot.path.now in
    let old = map numbered_node c.args.out.now.items in
    let middle = map numbered_node c.push_own.new.out.items in
    let new = map numbered_node c.emit_calls-in-Some.new.out.items in
    let ways = map numbered_way c.args.ways.items in
    let calls = map (call_stage part.span) part.calls.items in
    let first = c.in_ok-first-in-Some.first in
    let s : Stage = record { label = label_tree c.in-Some.label; span = part.span; part = part.span } in
    let counted : length c.as_slice-calls.result.now ≡ length calls = ap length c.as_slice-calls.ensures.value ∙ sym (call_count part.span part.calls.items) in
    let own : c.args.end - 1 ≡ first + length calls = sym c.in_ok-first-in-Some.ensures.first ∙ ap (λ n. first + n) counted in
    let pushed =
    c.in_ok-push_own-in-Some.ensures
    ∙ ap (λ k. old ++ record { point = at path c.args.spot.part k; label = s.label; span = s.span; ways = ways } ∷ []) counted in
    let emitted =
    c.in_ok-first-in-Some.ensures.nodes
    ∙ ap (λ cs. middle ++ reverse (part_numbered (map (call_stage part.span) cs) 0 first path c.args.spot.part (map numbered_way c.in_ok-onward-in-Some.onward.items))) c.as_slice-calls.ensures.value
    ∙ ap (λ w. middle ++ reverse (part_numbered calls 0 first path c.args.spot.part w)) c.in_ok-onward-in-Some.ensures in
    stages_emitted calls s first (c.args.end - 1) path c.args.spot.part ways old middle new own pushed emitted
    ∙ sym (ap (λ m. old ++ reverse (part_numbered (calls ++ own_stage part.span (option_map label_tree m)) 0 first path c.args.spot.part ways)) c.in-Some.is)
