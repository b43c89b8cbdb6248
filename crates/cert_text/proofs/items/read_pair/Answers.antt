use Rattle.std.proofs.Common.{◌≡◌, ◌∙◌, ◌∷◌, [], codes, sym, ap, subst, arith}
use Rattle.std.specs.Fmt.{decimal}
use Rattle.line_text.specs.Words.{line_of_words}
use Rattle.cert_text.specs.Certificates.{IsAfter, IsBefore}
use Rattle.cert_text.proofs.SameLemmas.{IsSmall, pair_same}
use Rattle.line_text.proofs.LawsOfValues.{one_value}
use Rattle.cert_text.proofs.items.read_pair.Goals as goal

pub returns-else-rises : goal.returns-else-rises
returns-else-rises c = λ pair below after has.
    let small : IsSmall c.args.bounds = record { edges = c.requires; old = omega arith; new = omega arith } in
    let words = one_value c.args.text.now 1 (codes "pair") c.in_ok-value.value.bytes.now (line_of_words (decimal pair.old ∷ decimal pair.new ∷ [])) c.in_ok-value.ensures.line has in
    let line = sym c.in_ok-pair.ensures.1 ∙ words in
    let same : c.in_ok-pair.pair ≡ pair = pair_same c.args.bounds c.in_ok-pair.pair pair small c.in_ok-pair.ensures.0 below (ap (λ ws. line_of_words (codes "pair" ∷ ws ∷ [])) line) in
    cc (c.rises.ensures.1 (subst (IsAfter IsBefore c.args.last) (sym same) after), c.if-rises.false)
