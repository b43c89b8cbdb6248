use Rattle.std.proofs.Common.{◌≡◌, ◌≢◌, ◌<◌, false, codes, length, ap, arith, rules}
use Rattle.std.specs.Str.{bytes_eq}
use Rattle.std.proofs.lemmas.Slice.Eq.{bytes_eq-Decides}
use Rattle.line_text.proofs.BytesLemmas.{bytes_or_dash-nonempty, word_of_digits}
use Rattle.line_text.proofs.bytes.read_bytes_or_dash.Goals as goal

pub returns-then-is_empty : goal.returns-then-is_empty
returns-then-is_empty c = λ bytes h is.
    let none : length c.args.text.now ≡ 0 = search rules in
    omega (arith, ap length is, bytes_or_dash-nonempty bytes)

pub returns-else-is_empty : goal.returns-else-is_empty
returns-else-is_empty c =
    let some : 0 < length c.args.text.now = search rules in
    let unlike : bytes_eq c.args.text.now (codes "-") ≡ false = search rules in
    let other : c.args.text.now ≢ codes "-" = λ is. cc ((bytes_eq-Decides c.args.text.now (codes "-")).1 is, unlike) in
    word_of_digits _ c.args.text.now c.read_hex.result other some c.read_hex.ensures
