use Rattle.std.proofs.Common.{option_map, sym, ap, ◌∙◌, true≢false}
use Rattle.csub_semantics.specs.Points.{exit_tree}
use Rattle.csub_semantics.specs.Flows.{flow_of}
use Rattle.csub_semantics.specs.Numbers.{site}
use Rattle.dual_walk.specs.Held.{AreAt}
use Rattle.dual_walk.proofs.LawsNumbers.{site_within, leads_none, leads_some}
use Rattle.dual_walk.proofs.ask.successors.Goals as goal

pub returns-in_default-clause-together : goal.returns-in_default-clause-together
returns-in_default-clause-together g c P P' f p p' ok ok' at q q' t =
    leads_none P' f ((flow_of P').succ f p' (exit_tree c.args.exit.now)) (c.in_default.ensures.leads P' (site f p') ok' at.new) q' t.new

pub returns-then-same_label-clause-together : goal.returns-then-same_label-clause-together
returns-then-same_label-clause-together g c P P' f p p' ok ok' at =
    let s = site_within c.args.both.now.old.now P c.args.to ok c.requires.to in
    let s' = site_within c.args.both.now.new.now P' c.in-Some.other ok' c.in-Some.ensures.within in
    let a = leads_some P f ((flow_of P).succ f p (exit_tree c.args.exit.now)) c.args.to s.0 s.1 (c.requires.leads P (site f p) ok at.old) in
    let b = leads_some P' f ((flow_of P').succ f p' (exit_tree c.args.exit.now)) c.in-Some.other s'.0 s'.1 (c.in-Some.ensures.leads P' (site f p') ok' at.new) in
    let there : AreAt P P' c.args.to c.in-Some.other f a.to b.to = record { old = a.at; new = b.at } in
    record {
      to = a.to;
      to' = b.to;
      at = there;
      both = record { old = a.leads; new = b.leads; same = (c.same_label.ensures.same P P' f a.to b.to ok ok' there).0 c.if-same_label.true };
    }

pub returns-else-same_label-clause-together : goal.returns-else-same_label-clause-together
returns-else-same_label-clause-together g c P P' f p p' ok ok' at q q' t =
    let there = c.requires.leads P (site f p) ok at.old ∙ ap (option_map (site f)) t.old in
    let there' = c.in-Some.ensures.leads P' (site f p') ok' at.new ∙ ap (option_map (site f)) t.new in
    true≢false (sym ((c.same_label.ensures.same P P' f q q' ok ok' (record { old = there; new = there' })).1 t.same) ∙ c.if-same_label.false)
