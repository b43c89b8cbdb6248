use Rattle.std.proofs.Common.{◌≡◌, ◌<◌, ◌-◌, sym, map, arith}
use Rattle.csub_semantics.specs.Syntax.{part_tree}
use Rattle.flow_graph.specs.Numbers.{count_parts}
use Rattle.flow_graph.proofs.Rows.{some_parts_enter, no_parts_enter}
use Rattle.flow_graph.proofs.begin.parts_begin.Goals as goal

pub returns-then-first-end-clause-enter : goal.returns-then-first-end-clause-enter
returns-then-first-end-clause-enter c =
    let some : 0 < count_parts (map part_tree c.args.parts.now) = omega (arith, c.if-first-end.true, c.count_parts_of.ensures) in
    sym (some_parts_enter (map part_tree c.args.parts.now) (c.args.end - c.count_parts_of.result) c.args.past some)

pub returns-else-first-end-clause-enter : goal.returns-else-first-end-clause-enter
returns-else-first-end-clause-enter c =
    let none : count_parts (map part_tree c.args.parts.now) ≡ 0 = omega (arith, c.if-first-end.false, c.count_parts_of.ensures, c.requires) in
    sym (no_parts_enter (map part_tree c.args.parts.now) (c.args.end - c.count_parts_of.result) c.args.past none)
