use Rattle.std.proofs.Common.{◌≡◌, ◌++◌, ◌∷◌, length, map, codes, None}
use Rattle.std.specs.Fmt.{decimal}
use Rattle.std.specs.List.{All}
use Rattle.line_text.specs.Lines.{text_of_lines}
use Rattle.cert_text.specs.Certificates.{IsBelow, Rise}
use Rattle.cert_text.specs.CertificateTexts.{pair_line}
use Rattle.line_text.specs.Values.{value_line}
use Rattle.cert_text.proofs.ItemLemmas.{last_of}
use Rattle.cert_text.proofs.reader.read_pairs.Given as goal

abbrev pub invariant-loop-place : goal.invariant-loop-place
invariant-loop-place l = record {
  count : length l.pairs.items ≡ l.place;
  last : l.last ≡ last_of None l.pairs.items;
  below : All (IsBelow l.bounds) l.pairs.items;
  rise : Rise l.pairs.items;
  lines : l.text ≡ value_line (codes "pairs") (decimal l.count) ++ 10 ∷ (text_of_lines (map pair_line l.pairs.items) ++ l.rest);
}
