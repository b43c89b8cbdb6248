use Rattle.csub_semantics.specs.Points.{exit_tree}
use Rattle.csub_semantics.specs.Flows.{flow_of}
use Rattle.csub_semantics.specs.Numbers.{site}
use Rattle.dual_walk.specs.Rest.{facts_of}
use Rattle.dual_walk.proofs.LawsNumbers.{site_within, leads_none, leads_some}
use Rattle.call_walk.proofs.Marking.{goes_at}
use Rattle.call_walk.proofs.danger.goes_on.Goals as goal

pub returns-in-Some : goal.returns-in-Some
returns-in-Some c P P' f p p' q ok' valid at' at leads =
    let s = site_within c.args.new.now P' c.in-Some.next ok' c.in-Some.ensures.within in
    let led = leads_some P' f ((flow_of P').succ f p' (exit_tree c.args.exit.now)) c.in-Some.next s.0 s.1 (c.in-Some.ensures.leads P' (site f p') ok' at') in
    let b = goes_at P P' valid ok'.valid (facts_of c.args.walk.now) f p p' q led.to (exit_tree c.args.exit.now) c.args.to c.in-Some.next leads led.leads (record { old = at; new = led.at }) in
    (λ t. b.0 (c.has.ensures.0 t), λ x. c.has.ensures.1 (b.1 x))

pub returns-in-None : goal.returns-in-None
returns-in-None c P P' f p p' q ok' valid at' at leads =
    (λ t. cc, λ g. absurd (leads_none P' f ((flow_of P').succ f p' (exit_tree c.args.exit.now)) (c.in-None.ensures.leads P' (site f p') ok' at') g.to' g.leads'))
