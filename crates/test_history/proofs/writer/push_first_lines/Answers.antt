use Rattle.test_history.specs.declared.version.Version.TheVariants.{Third}
use Rattle.test_history.specs.HistoryTexts.{first_lines}
use Rattle.line_text.proofs.LawsOfTexts.{with_lines-text_of_lines}
use Rattle.test_history.proofs.writer.push_first_lines.Goals as goal

pub returns : goal.returns
returns c =
    rw (c.in_ok-push_number_line-3.ensures, c.in_ok-push_number_line-2.ensures, c.in_ok-push_digest_line.ensures, c.in_ok-push_number_line.ensures, c.entries.ensures.value, c.from.ensures, c.edges.ensures, c.digest.ensures.value, c.number.ensures)
    (with_lines-text_of_lines c.args.text.now.items (first_lines Third c.args.history.now))
