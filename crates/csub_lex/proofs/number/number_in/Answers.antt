use Rattle.csub_lex.specs.Numbers.{is_digit_of}
use Rattle.csub_lex.proofs.Runs.{front_run}
use Rattle.csub_lex.proofs.number.number_in.Goals as goal

pub value_in-requires-clause-digits : goal.value_in-requires-clause-digits
value_in-requires-clause-digits c = rw (c.front.ensures, c.digits_len-len.ensures.value) (front_run (is_digit_of c.args.base) c.args.text.now)
