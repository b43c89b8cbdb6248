use Rattle.std.proofs.Common.{◌-◌, rules, arith}
use Rattle.csub_slots.proofs.Clears.{cleared_slots, cleared_none}
use Rattle.csub_slots.proofs.init.clear_slots.Goals as goal

pub returns-then-at-end : goal.returns-then-at-end
returns-then-at-end c =
    let is = c.min-end.ensures in
    let before = c.if-at-end.true in
    cleared_slots c.args.at c.args.count (c.min-end.result - c.args.at) c.args.slots.now c.fill.new.self (search rules) (omega arith) (omega arith) (λ less. omega arith)

pub returns-else-at-end : goal.returns-else-at-end
returns-else-at-end c =
    let is = c.min-end.ensures in
    let before = c.if-at-end.false in
    cleared_none c.args.at c.args.count c.args.slots.now (omega arith)
