use Rattle.std.proofs.Common.{◌≡◌, ◌≢◌, ◌∙◌, false, length, ap, sym, arith, rules}
use Rattle.std.proofs.lemmas.List.{length-replicate}
use Rattle.test_history.specs.HistoryTexts.{row_bytes}
use Rattle.test_history.proofs.BitsLemmas.{length-row_bytes, row_again}
use Rattle.test_history.proofs.bits.row_of_bits.Goals as goal

pub returns-then-bytes-div_ceil-clause-row : goal.returns-then-bytes-div_ceil-clause-row
returns-then-bytes-div_ceil-clause-row c = λ row size is.
    c.if-bytes-div_ceil.true (omega (arith, c.div_ceil.ensures, ap length is, length-row_bytes row, size))

pub returns-then-eq-clause-row : goal.returns-then-eq-clause-row
returns-then-eq-clause-row c =
    let same : c.as_slice.result.now ≡ c.args.bytes.now = search rules in
    let size : length c.in_ok-row.row ≡ c.args.edges = ap length c.in_ok-row.ensures ∙ length-replicate c.args.edges false in
    (c.set_bits.ensures.edges ∙ size, sym same ∙ c.as_slice.ensures.value ∙ c.in_ok-bytes_of_row.ensures)

pub returns-else-eq-clause-row : goal.returns-else-eq-clause-row
returns-else-eq-clause-row c = λ row size is.
    let bound : length c.in_ok-row.row ≡ c.args.edges = ap length c.in_ok-row.ensures ∙ length-replicate c.args.edges false in
    let again : c.set_bits.new.row ≡ row =
    row_again c.args.bytes.now c.set_bits.new.row row (c.set_bits.ensures.edges ∙ bound ∙ sym size) (λ edge within. c.set_bits.ensures.bits edge (omega (arith, within, c.set_bits.ensures.edges))) is in
    let other : c.as_slice.result.now ≢ c.args.bytes.now = search rules in
    other (c.as_slice.ensures.value ∙ c.in_ok-bytes_of_row.ensures ∙ ap row_bytes again ∙ sym is)
