use Rattle.std.proofs.Common.{◌≡◌, ◌++◌, ◌∷◌, length, map, codes, None}
use Rattle.std.specs.Fmt.{decimal}
use Rattle.line_text.specs.Lines.{text_of_lines}
use Rattle.edge_trace.specs.Rows.{numbers_of}
use Rattle.cert_text.specs.CertificateTexts.{edge_line}
use Rattle.line_text.specs.Values.{value_line}
use Rattle.cert_text.proofs.ItemLemmas.{last_of}
use Rattle.cert_text.proofs.PairLemmas.{IsClear}
use Rattle.cert_text.proofs.reader.read_danger.Given as goal

abbrev pub invariant-loop-place : goal.invariant-loop-place
invariant-loop-place l = record {
  size : length l.row ≡ l.bounds.edges;
  count : length (numbers_of l.row) ≡ l.place;
  last : l.last ≡ last_of None (numbers_of l.row);
  clear : IsClear l.row l.last;
  lines : l.text ≡ value_line (codes "dangerous") (decimal l.count) ++ 10 ∷ (text_of_lines (map edge_line (numbers_of l.row)) ++ l.rest);
}
