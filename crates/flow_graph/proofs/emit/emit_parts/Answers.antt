use Rattle.std.proofs.Common.{◌≡◌, ◌+◌, ◌-◌, ◌<◌, ◌++◌, ◌∙◌, ap, map, length, reverse, arith}
use Rattle.std.specs.Option.{option_map}
use Rattle.csub_semantics.specs.Labels.{label_tree}
use Rattle.csub_semantics.specs.Syntax.{part_tree}
use Rattle.flow_graph.specs.Numbers.{around, numbered_node, part_numbered, main_ways}
use Rattle.flow_graph.proofs.Rows.{part_room}
use Rattle.flow_graph.proofs.Emitted.{parts_emitted}
use Rattle.flow_graph.proofs.emit.emit_parts.Goals as goal

pub emit_part-requires : goal.emit_part-requires
emit_part-requires c =
    part_room c.args.parts.now c.loop-i.i c.loop-i.first c.args.end c.index-parts-i.result c.loop-i-test.true c.loop-i.auto.i c.index-parts-i.is c.loop-i.invariant.place c.requires

pub loop-i-preserved : goal.loop-i-preserved
loop-i-preserved c =
    let below : c.loop-i.i - 1 < length c.args.parts.now = omega arith in
    let onward : c.loop-i.i - 1 + 1 ≡ c.loop-i.i = omega arith in
    let x = c.index-parts-i.result in
    let first = c.in_ok-begin.begin.first in
    let ways = c.in_ok-ways.ensures in
    let emitted =
    c.in_ok-begin.ensures.nodes
    ∙ ap (λ w. map numbered_node c.loop-i.out.items ++ reverse (part_numbered (part_tree x) 0 first c.args.path.now c.in_ok-index.index w)) ways
    ∙ ap (λ k. map numbered_node c.loop-i.out.items ++ reverse (part_numbered (part_tree x) 0 first c.args.path.now k (main_ways (option_map label_tree x.main) c.loop-i.enter c.args.onward.returned))) c.in_ok-index.ensures in
    let made = parts_emitted c.args.parts.now c.args.from (c.loop-i.i - 1) c.loop-i.i x first c.loop-i.first c.args.path.now (around c.args.onward) c.loop-i.enter (map numbered_node c.args.out.now.items) (map numbered_node c.loop-i.out.items) (map numbered_node c.emit_part.new.out.items) onward below c.index-parts-i.is c.in_ok-begin.ensures.first c.loop-i.invariant.begins c.loop-i.invariant.points emitted in
    record {
      place = made.place ∙ c.loop-i.invariant.place;
      begins = c.in_ok-begin.ensures.enter ∙ made.begins;
      points = made.points;
    }
