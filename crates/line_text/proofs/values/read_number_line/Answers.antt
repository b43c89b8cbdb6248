use Rattle.line_text.proofs.LawsOfValues.{one_value}
use Rattle.line_text.proofs.values.read_number_line.Goals as goal

pub returns-in_err-number : goal.returns-in_err-number
returns-in_err-number c = rw c.from_residual-in_err-number.ensures (λ number has.
    c.in_err-number.ensures number has.0 (one_value c.args.text.now 1 c.args.word.now c.in_ok-value.value.bytes.now _ c.in_ok-value.ensures.line has.1))
