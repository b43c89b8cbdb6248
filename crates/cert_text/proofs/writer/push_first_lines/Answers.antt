use Rattle.std.proofs.Common.{◌∙◌, ◌++◌, ◌∷◌, [], codes, append_assoc}
use Rattle.hex.specs.Hex.{encode_lower}
use Rattle.line_text.specs.Lines.{text_of_lines}
use Rattle.cert_text.specs.CertificateTexts.{title}
use Rattle.line_text.specs.Values.{value_line}
use Rattle.line_text.proofs.LawsOfTexts.{with_lines-text_of_lines}
use Rattle.cert_text.proofs.writer.push_first_lines.Goals as goal

pub returns : goal.returns
returns c =
    rw (c.in_ok-push_digest_line-2.ensures, c.in_ok-push_digest_line.ensures, c.in_ok-extend_from_slice.ensures.items, c.old_digest.ensures.value, c.new_digest.ensures.value)
    (with_lines-text_of_lines (c.args.text.now.items ++ (title ++ 10 ∷ [])) (value_line (codes "old") (encode_lower c.args.certificate.now.old) ∷ value_line (codes "new") (encode_lower c.args.certificate.now.new) ∷ [])
    ∙ append_assoc c.args.text.now.items (title ++ 10 ∷ []) (text_of_lines (value_line (codes "old") (encode_lower c.args.certificate.now.old) ∷ value_line (codes "new") (encode_lower c.args.certificate.now.new) ∷ [])))
