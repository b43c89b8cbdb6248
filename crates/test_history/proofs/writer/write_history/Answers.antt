use Rattle.std.proofs.Common.{◌≡◌, ◌≤◌, ap, length, arith}
use Rattle.test_history.specs.HistoryTexts.{history_text}
use Rattle.test_history.proofs.writer.write_history.Goals as goal

pub returns-clause-text : goal.returns-clause-text
returns-clause-text c =
    rw (c.in_ok-push_end.ensures, c.in_ok-push_entries.ensures, c.in_ok-push_first_lines.ensures, c.in_ok-text.ensures.items, c.entries.ensures.value)

pub returns-clause-short : goal.returns-clause-short
returns-clause-short c =
    let size : length c.push_end.new.text.items ≡ length (history_text c.args.history.now) = ap length (returns-clause-text c) in
    let bounded : length (history_text c.args.history.now) ≤ 134217728 = omega (arith, c.text_length-length.ensures) in
    omega arith
