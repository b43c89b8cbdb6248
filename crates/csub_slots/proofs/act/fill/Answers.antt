use Rattle.std.proofs.Common.{◌≡◌, ◌∙◌, sym, map, drop, length, rules, arith}
use Rattle.csub_flat.specs.Seen.{arg_seen}
use Rattle.csub_slots.specs.Seen.{slot_seen}
use Rattle.csub_slots.proofs.Fills.{entered_done, same_state}
use Rattle.csub_slots.proofs.act.fill.Goals as goal

pub returns-then-len-i-clause-value : goal.returns-then-len-i-clause-value
returns-then-len-i-clause-value c =
    let inv = c.loop-i.invariant in
    let now = c.loop-i.store in
    let counted : c.len.result ≡ length now.values.items = search rules in
    same_state (drop now.place now.input.items) _ now.output.items _ (map slot_seen now.slots.items) _
    inv.rest
    inv.output
    (sym (entered_done c.args.base (map arg_seen (drop c.loop-i.i c.args.args.now)) now.values.items c.loop-i.i (map slot_seen now.slots.items) (omega arith)) ∙ inv.slots)
