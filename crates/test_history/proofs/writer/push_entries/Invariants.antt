use Rattle.std.proofs.Common.{◌≡◌, ◌++◌, drop}
use Rattle.std.specs.List.{flat_map}
use Rattle.line_text.specs.Lines.{text_of_lines}
use Rattle.test_history.specs.declared.version.Version.TheVariants.{Third}
use Rattle.test_history.specs.HistoryTexts.{entry_lines}
use Rattle.test_history.proofs.writer.push_entries.Given as goal

abbrev pub invariant-loop-entry : goal.invariant-loop-entry
invariant-loop-entry l =
    l.text.items ++ text_of_lines (flat_map (entry_lines Third) (drop l.entry-index l.entries)) ≡ l.fn.text.items ++ text_of_lines (flat_map (entry_lines Third) l.entries)
