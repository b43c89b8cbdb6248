use Rattle.std.proofs.Common.{◌≡◌, ◌∙◌, List, length, ap, subst}
use Rattle.std.specs.Prelude.{OnOk}
use Rattle.std.specs.Fmt.{decimal}
use Rattle.edge_trace.specs.Rows.{size}
use Rattle.cert_text.specs.declared.pair.Pair.{Pair}
use Rattle.command_claims.proofs.Lines.{closed_told}
use Rattle.command_claims.proofs.told.push_closed.Goals as goal

pub returns : goal.returns
returns c =
    let certificate = c.args.certificate.now in
    subst (λ whole. OnOk c.push_decimal-2.result (c.push_decimal-2.new.out.items ≡ whole))
    (closed_told c.args.text.now.items (decimal (length certificate.pairs)) (decimal (length c.pairs.result.now)) (decimal (size certificate.danger)) (decimal c.from.result)
    c.extend_from_slice.new.self.items c.push_decimal.new.out.items c.extend_from_slice-2.new.self.items
    c.in_ok-extend_from_slice.ensures.items c.in_ok-push_decimal.ensures.ok (ap (λ (pairs : List Pair). decimal (length pairs)) c.pairs.ensures) c.in_ok-extend_from_slice-2.ensures.items
    (ap decimal (c.from.ensures ∙ c.count.ensures ∙ ap size c.danger.ensures)))
    c.push_decimal-2.ensures.ok
