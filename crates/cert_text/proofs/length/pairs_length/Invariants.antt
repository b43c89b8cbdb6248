use Rattle.std.proofs.Common.{◌≡◌, ◌+◌, ◌*◌, ◌≤◌, length, drop, map}
use Rattle.line_text.specs.Lines.{text_of_lines}
use Rattle.cert_text.specs.CertificateTexts.{pair_line}
use Rattle.cert_text.proofs.length.pairs_length.Given as goal

abbrev pub invariant-loop-pair : goal.invariant-loop-pair
invariant-loop-pair l = record {
  exact : l.length + length (text_of_lines (map pair_line (drop l.pair-index l.pairs))) ≡ length (text_of_lines (map pair_line l.pairs));
  small : l.length ≤ 60 * l.pair-index;
}
