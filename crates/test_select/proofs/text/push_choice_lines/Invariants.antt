use Rattle.std.proofs.Common.{◌≡◌, ◌++◌, drop}
use Rattle.line_text.specs.Lines.{text_of_lines}
use Rattle.test_select.specs.SelectTexts.{choice_lines}
use Rattle.test_select.proofs.text.push_choice_lines.Given as goal

abbrev pub invariant-loop-place : goal.invariant-loop-place
invariant-loop-place l =
    l.text.items ++ text_of_lines (choice_lines (drop l.place l.entries) (drop l.place l.choices)) ≡ l.fn.text.items ++ text_of_lines (choice_lines l.entries l.choices)
