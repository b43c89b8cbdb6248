use Rattle.std.proofs.Common.{◌≡◌, ◌++◌, drop}
use Rattle.line_text.specs.Lines.{text_of_lines}
use Rattle.test_order.specs.OrderTexts.{place_lines}
use Rattle.test_order.proofs.text.push_place_lines.Given as goal

abbrev pub invariant-loop-place : goal.invariant-loop-place
invariant-loop-place l =
    l.text.items ++ text_of_lines (place_lines l.entries (drop l.place-index l.placed)) ≡ l.fn.text.items ++ text_of_lines (place_lines l.entries l.placed)
