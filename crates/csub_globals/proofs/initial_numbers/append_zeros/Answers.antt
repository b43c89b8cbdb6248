use Rattle.std.proofs.Common.{◌≡◌, length, vec_len, rules, arith}
use Rattle.csub_globals.proofs.Zeros.{extended}
use Rattle.csub_globals.proofs.initial_numbers.append_zeros.Goals as goal

pub returns : goal.returns
returns c =
    let counted : vec_len c.args.numbers.now ≡ length c.args.numbers.now.items = search rules in
    extended c.args.numbers.now.items c.resize.new.self.items _ (vec_len c.args.numbers.now) c.args.count c.in_ok-resize.ensures.items counted
    (omega arith)
