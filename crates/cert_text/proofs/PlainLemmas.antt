-- No line of a certificate has a newline in it.
use Rattle.std.proofs.Common.{◌≢◌, ◌<◌, ◌^◌, ℕ, ◌∷◌, codes, refl, arith}
use Rattle.std.specs.Fmt.{decimal}
use Rattle.std.proofs.lemmas.List.Elements.{All-cons, All-append}
use Rattle.line_text.specs.Values.{value_line}
use Rattle.line_text.proofs.LawsOfValues.{IsPlain, plain_value, plain_decimal}
use Rattle.cert_text.specs.declared.pair.Pair.{Pair}
use Rattle.cert_text.specs.CertificateTexts.{edge_line, pair_line}

pub plain_edge : (edge : ℕ) → edge < 2 ^ 64 → IsPlain (edge_line edge)
plain_edge edge small = plain_value (codes "edge") (decimal edge) refl (plain_decimal edge small)

pub plain_pair : (pair : Pair) → pair.old < 2 ^ 64 → pair.new < 2 ^ 64 → IsPlain (pair_line pair)
plain_pair pair small small' =
    plain_value (codes "pair") (value_line (decimal pair.old) (decimal pair.new)) refl
    (All-append (λ byte. byte ≢ 10) (decimal pair.old) (32 ∷ decimal pair.new) (plain_decimal pair.old small) (All-cons (λ byte. byte ≢ 10) 32 (decimal pair.new) (λ is. omega arith) (plain_decimal pair.new small')))
