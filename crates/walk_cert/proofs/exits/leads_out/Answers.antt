use Rattle.std.proofs.Common.{◌∙◌, sym, subst, inl, inr}
use Rattle.std.proofs.lemmas.Bool.{false≢true}
use Rattle.csub_semantics.specs.Flows.{flow_of}
use Rattle.csub_semantics.specs.Books.{GoesOn}
use Rattle.dual_walk.proofs.LawsNumbers.{site_within, leads_some}
use Rattle.walk_cert.specs.Claims.{IsClaimed}
use Rattle.walk_cert.specs.Verdicts.{IsWayOut}
use Rattle.walk_cert.proofs.ClaimLemmas.{way_out, stays_same, match_not}
use Rattle.walk_cert.proofs.exits.leads_out.Goals as goal

pub returns : goal.returns
returns c P P' ok ok' =
    let row = c.args.danger.now in
    let pairs = c.args.pairs.now in
    let l = c.requires.leaves P ok in
    let alike = c.requires.alike P P' ok ok' in
    let s = site_within c.args.old.now P c.edge_at-to.result.to ok c.edge_at-to.ensures.to_within in
    let led = leads_some P l.edge.function ((flow_of P).succ l.edge.function l.edge.from l.edge.exit) c.edge_at-to.result.to s.0 s.1 (c.edge_at-to.ensures.to P l.edge ok l.numbered) in
    let exits = c.edge_at-to.ensures.exit P l.edge ok l.numbered in
    let way : IsWayOut P P' c.args.pair c.args.edge = way_out P P' c.args.pair c.args.edge l alike.named led.to led.leads in
    let goes = c.goes_on.ensures P P' l.edge.function way.other led.to ok' ok.valid way.at.new led.at in
    match_not c.goes_on.result
    (λ no. record {
      way = way;
      out = λ stays. elim stays [
        | inl marked ↦ false≢true (sym c.if-has.false ∙ c.has.ensures ∙ marked)
        | inr on ↦ false≢true (sym no ∙ goes.1 (subst (λ x. GoesOn (flow_of P') (IsClaimed P P' pairs) l.edge.function way.other x led.to) (sym exits) on))
      ];
    })
    (λ yes other. stays_same P P' row pairs c.args.pair c.args.edge way other (inr (subst (λ x. GoesOn (flow_of P') (IsClaimed P P' pairs) l.edge.function way.other x led.to) exits (goes.0 yes))))
