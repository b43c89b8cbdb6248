use Rattle.std.proofs.Common.{sym, arith, ◌∙◌}
use Rattle.command_words.proofs.NumberLemmas.{number_in-none, number_in-below, number_in-some}
use Rattle.command_words.proofs.numbers.number_in.Goals as goal

pub returns-in_err-number-clause-number : goal.returns-in_err-number-clause-number
returns-in_err-number-clause-number c =
    let some = c.requires.some in let most = c.from.ensures in
    c.from_residual.ensures ∙ sym (number_in-none c.args.word.now c.args.least c.args.count (λ n below. c.in_err-number.ensures n (omega (arith, below, some, most))))

pub returns-then-number-least-clause-number : goal.returns-then-number-least-clause-number
returns-then-number-least-clause-number c =
    let small = c.requires.small in
    sym (number_in-below c.args.word.now c.args.least c.args.count c.in_ok-number.field-0 c.if-number-least.true (omega (arith, small)) c.in_ok-number.ensures.1)

pub returns-else-number-least-clause-number : goal.returns-else-number-least-clause-number
returns-else-number-least-clause-number c =
    let some = c.requires.some in let small = c.requires.small in let most = c.from.ensures in let upto = c.in_ok-number.ensures.0 in let from = c.if-number-least.false in
    sym (number_in-some c.args.word.now c.args.least c.args.count c.in_ok-number.field-0 (omega (arith, from)) (omega (arith, upto, most, some)) (omega (arith, small)) c.in_ok-number.ensures.1)
