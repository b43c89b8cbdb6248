use Rattle.csub_lex.proofs.Walks.{too_large}
use Rattle.csub_lex.proofs.number.value_in.Goals as goal

pub returns-then-next-from : goal.returns-then-next-from
returns-then-next-from c =
    let big = rw (c.from.ensures, c.from-in-loop-digit.ensures, c.from-in-loop-digit-2.ensures, c.digit_value.ensures, c.from-in-loop-digit-3.ensures) at c.if-next-from.true in
    too_large c.args.base c.args.digits.now c.loop-digit.digit-index c.loop-digit.value c.loop-digit-test.true c.requires.some c.loop-digit.invariant.so_far big
