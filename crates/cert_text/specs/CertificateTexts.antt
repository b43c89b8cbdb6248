-- The text of a certificate.
use Rattle.std.specs.Prelude.{ℕ, Bool, List, [], ◌∷◌, ◌++◌, length, map, codes}
use Rattle.std.specs.Fmt.{decimal}
use Rattle.hex.specs.Hex.{encode_lower}
use Rattle.sha2.specs.Sha256.{sha256}
use Rattle.line_text.specs.Lines.{text_of_lines}
use Rattle.line_text.specs.Words.{line_of_words}
use Rattle.edge_trace.specs.Rows.{numbers_of}
use Rattle.cert_text.specs.declared.pair.Pair.{Pair}
use Rattle.cert_text.specs.Certificates.{CertificateParts}
use Rattle.line_text.specs.Values.{value_line}

-- the line of an edge
abbrev pub edge_line : ℕ → List ℕ
edge_line edge = value_line (codes "edge") (decimal edge)

-- the line of a pair
abbrev pub pair_line : Pair → List ℕ
pair_line pair = line_of_words (codes "pair" ∷ decimal pair.old ∷ decimal pair.new ∷ [])

-- line 1
abbrev pub title : List ℕ
title = codes "dejavu certificate 1"

-- the first three lines
abbrev pub first_lines : CertificateParts → List (List ℕ)
first_lines certificate =
    title ∷ value_line (codes "old") (encode_lower certificate.old) ∷ value_line (codes "new") (encode_lower certificate.new) ∷ []

-- how many edges there are in a row, and a line for each
abbrev pub danger_lines : List Bool → List (List ℕ)
danger_lines row = value_line (codes "dangerous") (decimal (length (numbers_of row))) ∷ map edge_line (numbers_of row)

-- how many pairs there are, and a line for each
abbrev pub pairs_lines : List Pair → List (List ℕ)
pairs_lines pairs = value_line (codes "pairs") (decimal (length pairs)) ∷ map pair_line pairs

-- all that stands before the line `end`
abbrev pub text_before_end : CertificateParts → List ℕ
text_before_end certificate =
    text_of_lines (first_lines certificate) ++ (text_of_lines (danger_lines certificate.danger) ++ text_of_lines (pairs_lines certificate.pairs))

-- the line `end`, with a digest
abbrev pub end_line : List ℕ → List ℕ
end_line sum = value_line (codes "end") (encode_lower sum)

-- the text of a certificate with any digest on the line `end`
abbrev pub text_with_sum : CertificateParts → List ℕ → List ℕ
text_with_sum certificate sum = text_before_end certificate ++ text_of_lines (end_line sum ∷ [])

-- the text of a certificate: the line `end` has the SHA-256 digest of all that stands before it
abbrev pub certificate_text : CertificateParts → List ℕ
certificate_text certificate = text_with_sum certificate (sha256 (text_before_end certificate))

-- the greatest number of bytes of a certificate's text
abbrev pub most_certificate_bytes : ℕ
most_certificate_bytes = 134217728
