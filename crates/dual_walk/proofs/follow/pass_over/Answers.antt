use Rattle.std.proofs.Common.{◌≡◌, Some, sym, ap, ◌∙◌, subst}
use Rattle.std.proofs.lemmas.Option.{same_Some}
use Rattle.std.proofs.lemmas.Result.{on_ok_weaker}
use Rattle.csub_semantics.specs.Points.{next}
use Rattle.csub_semantics.specs.Flows.{flow_of}
use Rattle.csub_semantics.specs.Numbers.{site, site_at}
use Rattle.dual_walk.specs.declared.fact.Fact.{Fact}
use Rattle.dual_walk.specs.Moments.{HoldsNext}
use Rattle.dual_walk.proofs.LawsNumbers.{leads_none}
use Rattle.dual_walk.proofs.LawsLists.{read_at}
use Rattle.dual_walk.proofs.Explaining.{over_explained}
use Rattle.dual_walk.proofs.LawsFacts.{extends_none}
use Rattle.dual_walk.proofs.follow.pass_over.Goals as goal

pub follow-requires : goal.follow-requires
follow-requires g c =
    let stands = read_at c.args.pairs.now.facts.items c.args.at c.index-from.result.now c.requires.at c.index-from.ensures in
    (c.requires.moment.book.within c.args.at c.index-from.result.now stands).old

pub returns-in_default-clause-held : goal.returns-in_default-clause-held
returns-in_default-clause-held g c P P' d ok ok' e f p p' q q' at both =
    let stands = read_at c.args.pairs.now.facts.items c.args.at c.index-from.result.now c.requires.at c.index-from.ensures in
    let old : site_at P c.index-from.result.now.old ≡ Some (site f p) = ap (λ (b : Fact). site_at P b.old) (same_Some c.index-from.result.now d (sym stands ∙ e)) ∙ at.old in
    absurd (leads_none P f ((flow_of P).succ f p next) (c.in_default.ensures.leads P (site f p) ok old) q both.old)

pub advance-requires-clause-why : goal.advance-requires-clause-why
advance-requires-clause-why g c P P' ok ok' f p p' at pair t =
    let stands = read_at c.args.pairs.now.facts.items c.args.at c.index-from.result.now c.requires.at c.index-from.ensures in
    over_explained P P' c.args.pairs.now.facts.items c.args.at c.args.back c.index-from.result.now f p p' pair (c.requires.moment.book.reasoned P P' ok ok') (c.requires.over P P' ok ok') stands at t

pub returns-clause-held : goal.returns-clause-held
returns-clause-held g c =
    let stands = read_at c.args.pairs.now.facts.items c.args.at c.index-from.result.now c.requires.at c.index-from.ensures in
    on_ok_weaker c.advance.result (λ h P P' d ok ok' e. subst (λ (b : Fact). HoldsNext P P' c.advance.new.pairs.facts.items b next) (same_Some c.index-from.result.now d (sym stands ∙ e)) (h P P' ok ok')) c.advance.ensures.held

pub returns-in_default-clause-grows : goal.returns-in_default-clause-grows
returns-in_default-clause-grows g c = extends_none
