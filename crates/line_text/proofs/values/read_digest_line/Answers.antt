use Rattle.line_text.proofs.LawsOfValues.{one_value}
use Rattle.line_text.proofs.values.read_digest_line.Goals as goal

pub returns-in_err-digest : goal.returns-in_err-digest
returns-in_err-digest c = rw c.from_residual-in_err-digest.ensures (λ has.
    c.in_err-digest.ensures has.0 has.1.size has.1.bytes (one_value c.args.text.now 1 c.args.word.now c.in_ok-value.value.bytes.now _ c.in_ok-value.ensures.line has.2))
