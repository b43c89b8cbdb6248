use Rattle.std.proofs.Common.{◌≡◌, length, vec_len, true, is_ok, rules, arith}
use Rattle.csub_slots.proofs.Fills.{grown}
use Rattle.csub_slots.proofs.act.grow.Goals as goal

pub returns-clause-items : goal.returns-clause-items
returns-clause-items c =
    let counted : vec_len c.args.slots.now ≡ length c.args.slots.now.items = search rules in
    let ok : is_ok c.resize.result ≡ true = c.resize.ensures.succeeds (omega arith) in
    grown c.args.slots.now.items c.resize.new.self.items c.resize.result _ (vec_len c.args.slots.now) c.args.size c.resize.ensures.items ok counted (omega arith)
