use Rattle.std.proofs.Common.{◌≡◌, ◌++◌}
use Rattle.line_text.specs.Lines.{text_of_lines}
use Rattle.cert_text.specs.CertificateTexts.{danger_lines}
use Rattle.cert_text.proofs.ScanLemmas.{lines_from}
use Rattle.cert_text.proofs.writer.push_danger.Given as goal

abbrev pub invariant-loop-edge : goal.invariant-loop-edge
invariant-loop-edge l =
    l.text.items ++ lines_from l.row l.edge ≡ l.fn.text.items ++ text_of_lines (danger_lines l.row)
