use Rattle.std.proofs.Common.{◌≡◌, ◌<◌, ◌^◌, codes, arith, subst}
use Rattle.cert_text.specs.Certificates.{IsAfter}
use Rattle.cert_text.specs.CertificateTexts.{edge_line}
use Rattle.line_text.specs.Lines.{HasLine}
use Rattle.cert_text.proofs.PlainLemmas.{plain_edge}
use Rattle.cert_text.proofs.ReadLemmas.{first_is}
use Rattle.cert_text.proofs.SameLemmas.{number_same}
use Rattle.line_text.proofs.LawsOfValues.{one_line}
use Rattle.cert_text.proofs.items.read_edge.Goals as goal

pub returns-else-is_after : goal.returns-else-is_after
returns-else-is_after c = λ edge below after has.
    let small : c.in_ok-edge.edge < 2 ^ 64 = omega (arith, c.in_ok-edge.ensures.0, c.in_ok-checked_sub.ensures) in
    let here : HasLine c.args.text.now 1 (edge_line c.in_ok-edge.edge) = first_is c.args.text.now (edge_line c.in_ok-edge.edge) c.in_ok-edge.rest.now c.in_ok-edge.ensures.1 (plain_edge c.in_ok-edge.edge small) in
    let same : edge ≡ c.in_ok-edge.edge = number_same (codes "edge") edge c.in_ok-edge.edge (omega arith) small (one_line c.args.text.now 1 (edge_line edge) (edge_line c.in_ok-edge.edge) has here) in
    cc (c.is_after.ensures.1 (subst (IsAfter (λ a b. a < b) c.args.last) same after), c.if-is_after.false)
