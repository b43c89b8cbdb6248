use Rattle.std.proofs.Common.{◌≡◌, ◌<◌, ◌≤◌, ◌+◌, ◌*◌, ◌-◌, ◌^◌, ◌∙◌, rules, arith, false, ap, length, get_or, sym}
use Rattle.std.specs.Fmt.{decimal}
use Rattle.std.specs.Char.{is_ascii_digit}
use Rattle.line_text.proofs.LawsOfNumbers.{read_on, decimal-all_digits}
use Rattle.line_text.proofs.NumberLemmas.{decimal-not_empty, decimal-no_zero, decimal-not_above, decimal-read_on, all_ascii_digits-drop, end_digits, end_number, read_on-past}
use Rattle.line_text.proofs.numbers.read_decimal.Goals as goal
use Rattle.line_text.proofs.numbers.read_decimal.Goals.{else-text-gt1-via-then-text-gt1+else-text-eq48, else-text-gt1-via-else-text-gt1}

pub returns-then-is_empty : goal.returns-then-is_empty
returns-then-is_empty c = λ n within.
    let none : length c.args.text.now ≡ 0 = search rules in
    decimal-not_empty n c.args.text.now (omega arith) none

pub returns-then-text-eq48 : goal.returns-then-text-eq48
returns-then-text-eq48 c = λ n within. decimal-no_zero n c.args.text.now (omega arith) c.if-text-gt1.true c.if-text-eq48.true

pub returns-then-not-is_ascii_digit : goal.returns-then-not-is_ascii_digit
returns-then-not-is_ascii_digit c = λ n within.
    let other : is_ascii_digit (get_or c.args.text.now c.loop-digit.digit-index 0) ≡ false = sym c.is_ascii_digit.ensures.value ∙ c.if-not-is_ascii_digit.true in
    let cut = all_ascii_digits-drop c.loop-digit.digit-index c.args.text.now c.loop-digit-test.true other in
    decimal-all_digits n c.args.text.now (omega arith) (sym c.loop-digit.invariant.digits ∙ cut)

pub returns-in_err-checked_mul : goal.returns-in_err-checked_mul
returns-in_err-checked_mul c =
    let past : 2 ^ 64 ≤ c.loop-digit.value * 10 + (get_or c.args.text.now c.loop-digit.digit-index 0 - 48) = omega (arith, c.in_err-checked_mul.ensures) in
    let above = read_on-past c.loop-digit.value c.loop-digit.digit-index c.args.text.now c.loop-digit-test.true c.loop-digit.invariant.number past in
    rw c.from_residual.ensures (λ n within. decimal-not_above n c.args.most c.args.text.now (omega arith) within (omega arith))

pub returns-in_err-value : goal.returns-in_err-value
returns-in_err-value c =
    let past : 2 ^ 64 ≤ c.loop-digit.value * 10 + (get_or c.args.text.now c.loop-digit.digit-index 0 - 48) = omega (arith, c.in_err-value.ensures, c.in_ok-checked_mul.ensures, c.from.ensures) in
    let above = read_on-past c.loop-digit.value c.loop-digit.digit-index c.args.text.now c.loop-digit-test.true c.loop-digit.invariant.number past in
    rw c.from_residual-in_err-value.ensures (λ n within. decimal-not_above n c.args.most c.args.text.now (omega arith) within (omega arith))

pub returns-then-value-most : goal.returns-then-value-most
returns-then-value-most c =
    let digits = end_digits c.loop-digit.digit-index c.args.text.now c.loop-digit-test.false c.loop-digit.invariant.digits in
    let number = end_number c.loop-digit.value c.loop-digit.digit-index c.args.text.now c.loop-digit-test.false c.loop-digit.invariant.number in
    let some : 0 < length c.args.text.now = search rules in
    let plain : get_or c.args.text.now 0 0 ≡ 48 → length c.args.text.now ≡ 1 = λ zero. elim c.else-text-gt1.branch [
      | else-text-gt1-via-then-text-gt1+else-text-eq48 w ↦ absurd (w.if-text-eq48.false zero)
      | else-text-gt1-via-else-text-gt1 w ↦ omega (arith, some)
    ] in
    let small : read_on 0 c.args.text.now < 2 ^ 64 = rw number (omega arith) in
    (search rules, decimal-read_on c.args.text.now digits some plain small ∙ ap decimal number)

pub returns-else-value-most : goal.returns-else-value-most
returns-else-value-most c = λ n within.
    let number = end_number c.loop-digit.value c.loop-digit.digit-index c.args.text.now c.loop-digit-test.false c.loop-digit.invariant.number in
    let above : c.args.most < read_on 0 c.args.text.now = rw number (search rules) in
    decimal-not_above n c.args.most c.args.text.now (omega arith) within above
