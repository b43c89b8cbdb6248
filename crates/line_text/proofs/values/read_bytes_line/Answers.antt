use Rattle.std.proofs.Common.{◌≡◌, ◌∙◌, ap, length, sym, arith}
use Rattle.line_text.specs.Bytes.{bytes_or_dash}
use Rattle.line_text.proofs.Laws.{bytes_or_dash-injective}
use Rattle.line_text.proofs.LawsOfValues.{one_value}
use Rattle.line_text.proofs.values.read_bytes_line.Goals as goal

pub returns-in_default-2 : goal.returns-in_default-2
returns-in_default-2 c = λ has.
    let none = rw c.in_default-2.is at c.in_ok-bytes.ensures in
    none has.0 has.1 (one_value c.args.text.now 1 c.args.word.now c.in-Some.value.bytes.now _ c.in-Some.ensures.line has.3)

pub returns-in-None : goal.returns-in-None
returns-in-None c = λ has.
    let is : c.in-Some.value.bytes.now ≡ bytes_or_dash c.in-Some-2.bytes.items = rw c.in-Some-2.is at c.in_ok-bytes.ensures in
    let same = one_value c.args.text.now 1 c.args.word.now c.in-Some.value.bytes.now (bytes_or_dash has.0) c.in-Some.ensures.line has.3 in
    let equal : has.0 ≡ c.in-Some-2.bytes.items = bytes_or_dash-injective has.0 c.in-Some-2.bytes.items has.1 c.in-None.ensures.bytes (sym same ∙ is) in
    omega (arith, has.2, ap length equal, c.in-None.ensures.limit)
