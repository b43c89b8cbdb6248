use Rattle.std.proofs.Common.{◌≡◌, drop}
use Rattle.std.specs.Str.{all_ascii_digits}
use Rattle.line_text.proofs.LawsOfNumbers.{read_on}
use Rattle.line_text.proofs.numbers.read_decimal.Given as goal

abbrev pub invariant-loop-digit : goal.invariant-loop-digit
invariant-loop-digit l = record {
  digits : all_ascii_digits (drop l.digit-index l.text) ≡ all_ascii_digits l.text;
  number : read_on l.value (drop l.digit-index l.text) ≡ read_on 0 l.text;
}
