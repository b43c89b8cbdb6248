-- The lines of a row's edges, written from one number on, and the length of a text.
use Rattle.std.proofs.Common.{◌≡◌, ◌<◌, ◌+◌, ◌-◌, ◌*◌, ℕ, suc, Bool, true, false, cond, List, [], ◌∷◌, ◌++◌, length, length-append, map, filter, codes, sym, ap, ◌∙◌, arith, append_assoc}
use Rattle.std.specs.Fmt.{decimal}
use Rattle.std.specs.List.{range_with_len}
use Rattle.hex.specs.Hex.{encode_lower, lower_digits}
use Rattle.hex.proofs.HexLemmas.{length-encode_with}
use Rattle.sha2.specs.Sha256.{sha256}
use Rattle.edge_trace.specs.Rows.{has, numbers_of}
use Rattle.line_text.specs.Lines.{text_of_lines}
use Rattle.cert_text.specs.Certificates.{CertificateParts}
use Rattle.cert_text.specs.CertificateTexts.{edge_line, pair_line, title, first_lines, danger_lines, pairs_lines, end_line, text_before_end, certificate_text}
use Rattle.line_text.specs.Values.{value_line}
use Rattle.line_text.proofs.LawsOfDigests.{length-sha256}

-- the numbers of a row from one on
abbrev pub numbers_from : List Bool → ℕ → List ℕ
numbers_from row at = filter (has row) (range_with_len at (length row - at))

-- their lines
abbrev pub lines_from : List Bool → ℕ → List ℕ
lines_from row at = text_of_lines (map edge_line (numbers_from row at))

numbers_next : (row : List Bool) (at : ℕ) → at < length row → numbers_from row at ≡ cond (has row at) (at ∷ numbers_from row (at + 1)) (numbers_from row (at + 1))
numbers_next row at within =
    let size : length row - at ≡ suc (length row - (at + 1)) = omega arith in
    ap (λ n. filter (has row) (range_with_len at n)) size

pub lines_marked : (row : List Bool) (at : ℕ) → at < length row → has row at ≡ true → lines_from row at ≡ edge_line at ++ 10 ∷ lines_from row (at + 1)
lines_marked row at within marked =
    ap (λ ns. text_of_lines (map edge_line ns)) (numbers_next row at within ∙ ap (λ t. cond t (at ∷ numbers_from row (at + 1)) (numbers_from row (at + 1))) marked)

pub lines_unmarked : (row : List Bool) (at : ℕ) → at < length row → has row at ≡ false → lines_from row at ≡ lines_from row (at + 1)
lines_unmarked row at within unmarked =
    ap (λ ns. text_of_lines (map edge_line ns)) (numbers_next row at within ∙ ap (λ t. cond t (at ∷ numbers_from row (at + 1)) (numbers_from row (at + 1))) unmarked)

pub lines_first : (row : List Bool) → lines_from row 0 ≡ text_of_lines (map edge_line (numbers_of row))
lines_first row =
    let size : length row - 0 ≡ length row = omega arith in
    ap (λ n. text_of_lines (map edge_line (filter (has row) (range_with_len 0 n)))) size

pub lines_last : (row : List Bool) (at : ℕ) → at ≡ length row → lines_from row at ≡ []
lines_last row at is =
    let size : length row - at ≡ 0 = omega arith in
    ap (λ n. text_of_lines (map edge_line (filter (has row) (range_with_len at n)))) size

-- a text to which one more line is appended
pub line_pushed : (text whole line rest : List ℕ) (more : List ℕ) → text ++ rest ≡ whole → rest ≡ line ++ 10 ∷ more → ((text ++ line) ++ 10 ∷ []) ++ more ≡ whole
line_pushed text whole line rest more is cut =
    append_assoc (text ++ line) (10 ∷ []) more ∙ append_assoc text line (10 ∷ more) ∙ ap (λ r. text ++ r) (sym cut) ∙ is

-- ---- lengths

pub length_pushed : (sofar whole : ℕ) (line rest more : List ℕ) → sofar + length rest ≡ whole → rest ≡ line ++ 10 ∷ more → sofar + (length line + 1) + length more ≡ whole
length_pushed sofar whole line rest more is cut = omega (arith, is, ap length cut, length-append line (10 ∷ more))

length_first : (old new : List ℕ) → length (text_of_lines (title ∷ value_line (codes "old") (encode_lower old) ∷ value_line (codes "new") (encode_lower new) ∷ [])) ≡ 31 + 2 * length old + 2 * length new
length_first old new = simp length-append (omega (arith, length-encode_with lower_digits old, length-encode_with lower_digits new))

length_head : (word : List ℕ) (number : ℕ) (rest : List ℕ) → length (value_line word (decimal number) ++ 10 ∷ rest) ≡ length word + length (decimal number) + length rest + 2
length_head word number rest = simp length-append (omega arith)

length_parts : (one two three last : List ℕ) → length ((one ++ (two ++ three)) ++ last) ≡ length one + length two + length three + length last
length_parts one two three last = simp length-append (omega arith)

length_end : (sum : List ℕ) → length (text_of_lines (end_line sum ∷ [])) ≡ 5 + 2 * length sum
length_end sum = simp length-append (omega (arith, length-encode_with lower_digits sum))

pub length-certificate_text : (certificate : CertificateParts) → length (certificate_text certificate)
    ≡ 118 + 2 * length certificate.old + 2 * length certificate.new + length (decimal (length (numbers_of certificate.danger))) + length (text_of_lines (map edge_line (numbers_of certificate.danger)))
    + length (decimal (length certificate.pairs)) + length (text_of_lines (map pair_line certificate.pairs))
length-certificate_text certificate =
    length_parts (text_of_lines (first_lines certificate)) (text_of_lines (danger_lines certificate.danger)) (text_of_lines (pairs_lines certificate.pairs)) (text_of_lines (end_line (sha256 (text_before_end certificate)) ∷ []))
    ∙ omega (
      arith,
      length_first certificate.old certificate.new,
      length_head (codes "dangerous") (length (numbers_of certificate.danger)) (text_of_lines (map edge_line (numbers_of certificate.danger))),
      length_head (codes "pairs") (length certificate.pairs) (text_of_lines (map pair_line certificate.pairs)),
      length_end (sha256 (text_before_end certificate)),
      length-sha256 (text_before_end certificate),
    )
