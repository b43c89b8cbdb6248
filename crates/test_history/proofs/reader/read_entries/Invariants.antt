use Rattle.std.proofs.Common.{◌≡◌, ◌≢◌, ◌++◌, length, map}
use Rattle.std.specs.List.{All, AllPairs, flat_map}
use Rattle.line_text.specs.Lines.{text_of_lines}
use Rattle.test_history.specs.Faults.{IsGoodEntry}
use Rattle.test_history.specs.Histories.{names_of}
use Rattle.test_history.specs.HistoryTexts.{entry_lines}
use Rattle.test_history.proofs.reader.read_entries.Given as goal

abbrev pub invariant-loop-place : goal.invariant-loop-place
invariant-loop-place l = record {
  count : length l.entries.items ≡ l.place;
  rest : l.text ≡ text_of_lines (flat_map (entry_lines l.version) l.entries.items) ++ l.rest;
  good : All (IsGoodEntry l.edges) l.entries.items;
  names : map (λ name. name.now) l.names.keys ≡ names_of l.entries.items;
  apart : AllPairs (λ name other. name ≢ other) (names_of l.entries.items);
}
