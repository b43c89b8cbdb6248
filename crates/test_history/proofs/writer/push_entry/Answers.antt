use Rattle.std.proofs.Common.{◌≡◌, ◌∙◌, ◌++◌, ◌∷◌, [], codes, ap}
use Rattle.line_text.specs.Bytes.{bytes_or_dash}
use Rattle.test_history.specs.declared.version.Version.TheVariants.{Third}
use Rattle.line_text.specs.Values.{value_line}
use Rattle.test_history.specs.HistoryTexts.{entry_lines, row_bytes}
use Rattle.line_text.proofs.LawsOfTexts.{with_lines-text_of_lines}
use Rattle.test_history.proofs.writer.push_entry.Goals as goal

pub returns : goal.returns
returns c =
    let bytes : c.deref.result.now ≡ row_bytes c.args.entry.now.crossed = c.deref.ensures.value ∙ c.in_ok-bytes_of_row.ensures ∙ ap row_bytes c.crossed.ensures in
    let crossed = c.in_ok-push_bytes_line-3.ensures ∙ ap (λ bs. (c.push_bytes_line-2.new.text.items ++ value_line (codes "crossed") (bytes_or_dash bs)) ++ 10 ∷ []) bytes in
    rw (crossed, c.in_ok-push_bytes_line-2.ensures, c.in_ok-push_number_line-2.ensures, c.in_ok-push_status_line.ensures, c.in_ok-push_bytes_line.ensures, c.in_ok-push_number_line.ensures, c.in_ok-push_text_line.ensures)
    (rw (c.bytes.ensures, c.name.ensures, c.from.ensures, c.budget.ensures, c.input.ensures, c.test-test.ensures, c.status.ensures, c.from-2.ensures, c.turns.ensures, c.output.ensures)
    (with_lines-text_of_lines c.args.text.now.items (entry_lines Third c.args.entry.now)))
