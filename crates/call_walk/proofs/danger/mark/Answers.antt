use Rattle.std.proofs.Common.{ℕ, sym, ◌∙◌, true≢false}
use Rattle.dual_walk.specs.Rest.{facts_of}
use Rattle.dual_walk.proofs.LawsLists.{contained}
use Rattle.dual_walk.proofs.LawsRest.{rest_same}
use Rattle.call_walk.specs.Danger.{ComesBack, Stops, IsStopped}
use Rattle.call_walk.proofs.Marking.{marks_as, marks_none}
use Rattle.call_walk.proofs.danger.mark.Goals as goal

pub returns-then-comes_back-clause-marks : goal.returns-then-comes_back-clause-marks
returns-then-comes_back-clause-marks c P P' ok ok' = marks_as c.args.danger.now c.mark_edges.new.danger (Stops P P' (facts_of c.args.walk.now) c.args.from) (IsStopped P P' (facts_of c.args.walk.now) c.args.from)
    (λ e s. record { stops = s; back = back e s }) (λ e s. s.stops) (c.mark_edges.ensures.marks P P' ok ok')
  where
    back : (e : ℕ) (s : Stops P P' (facts_of c.args.walk.now) c.args.from e) → ComesBack P P' (facts_of c.args.walk.now) s.edge.function s.edge.from
    back e s =
        let i = contained (facts_of c.args.walk.now) c.args.from c.requires.among in
        (c.comes_back.ensures P P' s.edge.function s.edge.from s.other ok ok' s.at (rest_same c.args.both.now.old.now c.args.both.now.new.now c.args.walk.now c.requires.rests P P' ok ok' i.0 c.args.from i.1 s.edge.function s.edge.from s.other s.at)).0 c.if-comes_back.true

pub returns-else-comes_back-clause-marks : goal.returns-else-comes_back-clause-marks
returns-else-comes_back-clause-marks c P P' ok ok' = marks_none c.args.danger.now (IsStopped P P' (facts_of c.args.walk.now) c.args.from) (λ e s. none e s)
  where
    none : (e : ℕ) → IsStopped P P' (facts_of c.args.walk.now) c.args.from e → ⊥
    none e h =
        let i = contained (facts_of c.args.walk.now) c.args.from c.requires.among in
        let same = rest_same c.args.both.now.old.now c.args.both.now.new.now c.args.walk.now c.requires.rests P P' ok ok' i.0 c.args.from i.1 h.stops.edge.function h.stops.edge.from h.stops.other h.stops.at in
        true≢false (sym ((c.comes_back.ensures P P' h.stops.edge.function h.stops.edge.from h.stops.other ok ok' h.stops.at same).1 h.back) ∙ c.if-comes_back.false)
