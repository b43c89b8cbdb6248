use Rattle.std.proofs.Common.{◌≡◌, ◌∙◌, sym, subst}
use Rattle.std.proofs.lemmas.Bool.{false≢true}
use Rattle.std.proofs.lemmas.Option.{same_Some}
use Rattle.csub_semantics.specs.Points.{exit_tree}
use Rattle.csub_semantics.specs.Flows.{flow_of}
use Rattle.csub_semantics.specs.Numbers.{site}
use Rattle.dual_walk.proofs.LawsNumbers.{site_within, leads_none, leads_some}
use Rattle.walk_cert.specs.Claims.{IsClaimed}
use Rattle.walk_cert.proofs.ClaimLemmas.{claimed_of, pair_of}
use Rattle.walk_cert.proofs.exits.goes_on.Goals as goal

pub returns-in-Some : goal.returns-in-Some
returns-in-Some c P P' f p' q ok' valid at' at =
    let s = site_within c.args.new.now P' c.in-Some.next ok' c.in-Some.ensures.within in
    let led = leads_some P' f ((flow_of P').succ f p' (exit_tree c.args.exit.now)) c.in-Some.next s.0 s.1 (c.in-Some.ensures.leads P' (site f p') ok' at') in (
      λ t. record { to = led.to; leads = led.leads; claimed = claimed_of P P' c.args.pairs.now c.args.to c.in-Some.next f q led.to (record { old = at; new = led.at }) (c.has_pair.ensures.0 t) },
      λ g.
          let to : g.to ≡ led.to = same_Some g.to led.to (sym g.leads ∙ led.leads) in
          c.has_pair.ensures.1 (pair_of P P' c.args.pairs.now c.args.to c.in-Some.next f q led.to valid ok'.valid (record { old = at; new = led.at }) (subst (λ y. IsClaimed P P' c.args.pairs.now f q y) to g.claimed)),
    )

pub returns-in-None : goal.returns-in-None
returns-in-None c P P' f p' q ok' valid at' at =
    (λ t. absurd (false≢true t), λ g. absurd (leads_none P' f ((flow_of P').succ f p' (exit_tree c.args.exit.now)) (c.in-None.ensures.leads P' (site f p') ok' at') g.to g.leads))
