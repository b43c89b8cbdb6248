use Rattle.std.proofs.Common.{arith}
use Rattle.cert_text.proofs.PairLemmas.{no_first, first_of_two, not_alone, second_of_two}
use Rattle.cert_text.proofs.items.pair_of.Goals as goal

pub returns-in_err-word : goal.returns-in_err-word
returns-in_err-word c = rw c.from_residual.ensures (λ pair below is.
    no_first c.args.words.now pair.old pair.new (omega (arith, below.0)) (omega (arith, below.1)) is c.in_err-word.ensures.pieces)

pub returns-in_err-old : goal.returns-in_err-old
returns-in_err-old c = rw c.from_residual-in_err-old.ensures (λ pair below is.
    c.in_err-old.ensures pair.old below.0
    (first_of_two (λ rest. rest.now) c.args.words.now c.in_ok-word.word.bytes.now c.in_ok-word.word.rest pair.old pair.new (omega (arith, below.0)) (omega (arith, below.1)) is c.in_ok-word.ensures.pieces))

pub returns-in_err-word-2 : goal.returns-in_err-word-2
returns-in_err-word-2 c = rw c.from_residual-in_err-word-2.ensures (λ pair below is.
    not_alone c.args.words.now c.in_ok-word.word.bytes.now pair.old pair.new (omega (arith, below.0)) (omega (arith, below.1)) is (rw c.in_err-word-2.was at c.in_ok-word.ensures.pieces))

pub returns-in_err-new : goal.returns-in_err-new
returns-in_err-new c = rw c.from_residual-in_err-new.ensures (λ pair below is.
    c.in_err-new.ensures pair.new below.1
    (second_of_two c.args.words.now c.in_ok-word.word.bytes.now c.in_ok-word-2.field-0.now pair.old pair.new (omega (arith, below.0)) (omega (arith, below.1)) is (rw c.in_ok-word-2.was at c.in_ok-word.ensures.pieces)))
