use Rattle.std.proofs.Common.{◌≤◌, ◌+◌, ◌∙◌, ap, sym, arith, get_or, count_ones, bit_and, w64}
use Rattle.std.specs.Int.{bit_not}
use Rattle.edge_trace.specs.Rows.{size, difference}
use Rattle.edge_trace.specs.Words.{bits_of}
use Rattle.edge_trace.proofs.CountLemmas.{ones_beyond, ones_beyond-all, ones_beyond-more, ones_beyond-le}
use Rattle.edge_trace.proofs.words.count_bits_beyond.Goals as goal

pub overflow_add-total : goal.overflow_add-total
overflow_add-total c =
    let more : ones_beyond c.loop-at.at c.args.words.now c.args.others.now + count_ones (bit_and (get_or c.args.words.now c.loop-at.at 0) (bit_not w64 (get_or c.args.others.now c.loop-at.at 0))) ≤ size (difference (bits_of c.args.words.now) (bits_of c.args.others.now)) = ones_beyond-le c.args.words.now c.args.others.now c.requires.same (λ k. (c.type_inv.words k).fits) (λ k. (c.type_inv.others k).fits) c.loop-at.at c.loop-at-test.true in
    record { fits = omega (arith, more, c.loop-at.invariant, c.requires.fits) }

pub loop-at-preserved : goal.loop-at-preserved
loop-at-preserved c =
    ap (λ n. n + count_ones (bit_and (get_or c.args.words.now c.loop-at.at 0) (bit_not w64 (get_or c.args.others.now c.loop-at.at 0)))) c.loop-at.invariant ∙ sym (ones_beyond-more c.args.words.now c.args.others.now c.requires.same (λ k. (c.type_inv.words k).fits) (λ k. (c.type_inv.others k).fits) c.loop-at.at c.loop-at-test.true)

pub returns : goal.returns
returns c =
    c.loop-at.invariant ∙ ones_beyond-all c.args.words.now c.args.others.now c.requires.same (λ k. (c.type_inv.words k).fits) (λ k. (c.type_inv.others k).fits) c.loop-at.at c.loop-at-test.false
