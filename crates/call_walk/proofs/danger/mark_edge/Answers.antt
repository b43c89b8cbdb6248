use Rattle.std.proofs.Common.{◌≡◌, Some, sym, ◌∙◌, subst, true≢false, ◌<◌, length, arith}
use Rattle.csub_semantics.specs.Flows.{flow_of}
use Rattle.dual_walk.specs.Rest.{facts_of}
use Rattle.dual_walk.proofs.LawsNumbers.{site_within, leads_some}
use Rattle.dual_walk.proofs.LawsLists.{contained}
use Rattle.dual_walk.proofs.LawsRest.{rest_book, rest_named}
use Rattle.call_walk.specs.Danger.{GoesOn, Stops}
use Rattle.call_walk.proofs.Marking.{marks_as, marks_none, marks_one, Leads, leaves_at, stops_yes, stops_no}
use Rattle.call_walk.proofs.danger.mark_edge.Goals as goal

pub goes_on-requires : goal.goes_on-requires
goes_on-requires c =
    let i = contained (facts_of c.args.walk.now) c.args.from c.requires.among in
    ((rest_book c.args.old.now c.args.new.now c.args.walk.now c.requires.rests).within i.0 c.args.from i.1).new

pub returns-then-goes_on-clause-marks : goal.returns-then-goes_on-clause-marks
returns-then-goes_on-clause-marks c P P' ok ok' =
    marks_none c.args.danger.now (λ e. (e ≡ c.args.edge) × Stops P P' (facts_of c.args.walk.now) c.args.from e) (λ e h. none (subst (λ n. Stops P P' (facts_of c.args.walk.now) c.args.from n) h.0 h.1))
  where
    none : Stops P P' (facts_of c.args.walk.now) c.args.from c.args.edge → ⊥
    none =
        let i = contained (facts_of c.args.walk.now) c.args.from c.requires.among in
        let n = rest_named c.args.old.now c.args.new.now c.args.walk.now c.requires.rests P P' ok ok' i.0 c.args.from i.1 in
        let l = c.requires.leaves P ok in
        let at = leaves_at P P' (facts_of c.args.walk.now) c.args.from c.args.edge n l in
        let s = site_within c.args.old.now P c.edge_at-to.result.to ok c.edge_at-to.ensures.to_within in
        let led = leads_some P l.edge.function ((flow_of P).succ l.edge.function l.edge.from l.edge.exit) c.edge_at-to.result.to s.0 s.1 (c.edge_at-to.ensures.to P l.edge ok l.numbered) in
        let exits = c.edge_at-to.ensures.exit P l.edge ok l.numbered in
        let goes = c.goes_on.ensures P P' l.edge.function l.edge.from n.other led.to ok' ok.valid at.new led.at (subst (λ x. (flow_of P).succ l.edge.function l.edge.from x ≡ Some led.to) (sym exits) led.leads) in
        let leads : Leads P P' (facts_of c.args.walk.now) c.args.from c.args.edge = record { edge = l.edge; numbered = l.numbered; other = n.other; at = at; to = led.to; leads = led.leads } in
        stops_no P P' (facts_of c.args.walk.now) c.args.from c.args.edge leads
        (subst (λ x. GoesOn P P' (facts_of c.args.walk.now) l.edge.function l.edge.from n.other x) exits (goes.0 c.if-goes_on.true))

pub returns-clause-marks : goal.returns-clause-marks
returns-clause-marks c P P' ok ok' =
    marks_as c.args.danger.now c.set.new.self (λ e. e ≡ c.args.edge) (λ e. (e ≡ c.args.edge) × Stops P P' (facts_of c.args.walk.now) c.args.from e)
    (λ e is. (is, subst (λ n. Stops P P' (facts_of c.args.walk.now) c.args.from n) (sym is) stopped)) (λ e h. h.0)
    (marks_one c.args.danger.now c.set.new.self c.args.edge within c.set.ensures)
  where
    within : c.args.edge < length c.args.danger.now
    within = let l = c.requires.edges in let e = c.requires.edge in omega (arith, l, e)

    stopped : Stops P P' (facts_of c.args.walk.now) c.args.from c.args.edge
    stopped =
        let i = contained (facts_of c.args.walk.now) c.args.from c.requires.among in
        let n = rest_named c.args.old.now c.args.new.now c.args.walk.now c.requires.rests P P' ok ok' i.0 c.args.from i.1 in
        let l = c.requires.leaves P ok in
        let at = leaves_at P P' (facts_of c.args.walk.now) c.args.from c.args.edge n l in
        let s = site_within c.args.old.now P c.edge_at-to.result.to ok c.edge_at-to.ensures.to_within in
        let led = leads_some P l.edge.function ((flow_of P).succ l.edge.function l.edge.from l.edge.exit) c.edge_at-to.result.to s.0 s.1 (c.edge_at-to.ensures.to P l.edge ok l.numbered) in
        let exits = c.edge_at-to.ensures.exit P l.edge ok l.numbered in
        let goes = c.goes_on.ensures P P' l.edge.function l.edge.from n.other led.to ok' ok.valid at.new led.at (subst (λ x. (flow_of P).succ l.edge.function l.edge.from x ≡ Some led.to) (sym exits) led.leads) in
        let leads : Leads P P' (facts_of c.args.walk.now) c.args.from c.args.edge = record { edge = l.edge; numbered = l.numbered; other = n.other; at = at; to = led.to; leads = led.leads } in
        stops_yes P P' (facts_of c.args.walk.now) c.args.from c.args.edge leads
        (λ g. true≢false (sym (goes.1 (subst (λ x. GoesOn P P' (facts_of c.args.walk.now) l.edge.function l.edge.from n.other x) (sym exits) g)) ∙ c.if-goes_on.false))
