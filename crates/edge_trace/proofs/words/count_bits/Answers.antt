use Rattle.std.proofs.Common.{rules, ◌≡◌, ◌<◌, ◌^◌, ◌∙◌, sym, arith, sum_by, count_ones}
use Rattle.edge_trace.proofs.CountLemmas.{size-bits_of}
use Rattle.edge_trace.proofs.words.count_bits.Goals as goal

pub sum-requires-clause-fits : goal.sum-requires-clause-fits
sum-requires-clause-fits c =
    let ones = size-bits_of c.args.words.now (λ k. (c.type_inv.words k).fits) in
    let fits : sum_by count_ones c.args.words.now < 2 ^ 32 = omega (arith, ones, c.requires) in
    search rules

pub returns : goal.returns
returns c =
    let sums : c.sum.result ≡ sum_by count_ones c.args.words.now = search rules in
    sums ∙ sym (size-bits_of c.args.words.now (λ k. (c.type_inv.words k).fits))
