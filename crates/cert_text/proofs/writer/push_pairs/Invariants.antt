use Rattle.std.proofs.Common.{◌≡◌, ◌++◌, map, drop}
use Rattle.line_text.specs.Lines.{text_of_lines}
use Rattle.cert_text.specs.CertificateTexts.{pair_line, pairs_lines}
use Rattle.cert_text.proofs.writer.push_pairs.Given as goal

abbrev pub invariant-loop-pair : goal.invariant-loop-pair
invariant-loop-pair l =
    l.text.items ++ text_of_lines (map pair_line (drop l.pair-index l.pairs)) ≡ l.fn.text.items ++ text_of_lines (pairs_lines l.pairs)
