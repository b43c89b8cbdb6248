use Rattle.std.proofs.Common.{◌≡◌, ◌∙◌, ap, sym}
use Rattle.line_text.specs.Bytes.{bytes_or_dash}
use Rattle.test_history.specs.HistoryTexts.{row_bytes}
use Rattle.test_history.proofs.BitsLemmas.{IsBytes-row_bytes, row_of_word}
use Rattle.test_history.proofs.bits.row_of_bytes.Goals as goal

pub returns-in-Some : goal.returns-in-Some
returns-in-Some c =
    let said : c.args.text.now ≡ bytes_or_dash c.in-Some.bytes.items = rw c.in-Some.is at c.in_ok-bytes.ensures in
    row_of_word c.args.text.now c.deref.result.now c.args.edges c.row_of_bits.result c.row_of_bits.ensures.bytes (said ∙ ap bytes_or_dash (sym c.deref.ensures.value)) c.row_of_bits.ensures.row

pub returns-in-None : goal.returns-in-None
returns-in-None c = λ row size is.
    let none = rw c.in-None.is at c.in_ok-bytes.ensures in
    none (row_bytes row) (IsBytes-row_bytes row) is
