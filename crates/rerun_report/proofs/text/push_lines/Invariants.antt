use Rattle.std.proofs.Common.{◌≡◌, ◌+◌, ◌≤◌, ◌++◌, length, drop}
use Rattle.std.specs.List.{count_by}
use Rattle.line_text.specs.Lines.{text_of_lines}
use Rattle.test_select.specs.Selection.{is_selected}
use Rattle.rerun_report.specs.Reruns.{differ_count}
use Rattle.rerun_report.specs.RerunTexts.{rerun_lines}
use Rattle.rerun_report.proofs.text.push_lines.Given as goal

abbrev pub invariant-loop-place : goal.invariant-loop-place
invariant-loop-place l = record {
  text : l.text.items ++ text_of_lines (rerun_lines (drop l.place l.entries) (drop l.place l.choices) (drop l.next l.results))
      ≡ l.fn.text.items ++ text_of_lines (rerun_lines l.entries l.choices l.results);
  differs : l.differs + differ_count (drop l.place l.entries) (drop l.place l.choices) (drop l.next l.results) ≡ differ_count l.entries l.choices l.results;
  rest : l.next + count_by is_selected (drop l.place l.choices) ≡ length l.results;
  few : l.differs ≤ l.next;
}
