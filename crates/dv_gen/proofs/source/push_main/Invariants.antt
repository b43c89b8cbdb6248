use Rattle.std.proofs.Common.{◌≡◌, ◌++◌, map}
use Rattle.std.specs.List.{range_with_len}
use Rattle.line_text.specs.Lines.{text_of_lines}
use Rattle.dv_gen.specs.Pairs.{call_line}
use Rattle.dv_gen.proofs.source.push_main.Given as goal

abbrev pub invariant-loop-place : goal.invariant-loop-place
invariant-loop-place l = l.text.items ≡ l.initial.text.items ++ text_of_lines (map call_line (range_with_len 0 l.place))
