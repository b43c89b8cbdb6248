use Rattle.std.proofs.Common.{◌≡◌, ◌<◌, ℕ, List, length, get_or, Some, sym, ap, ◌∙◌, subst}
use Rattle.std.specs.Prelude.{slice_get}
use Rattle.std.proofs.lemmas.Option.{slice_get-get_or, get_or_from_slice_get}
use Rattle.std.proofs.lemmas.Result.{on_ok_weaker}
use Rattle.csub_semantics.specs.Flows.{flow_of}
use Rattle.dual_walk.specs.declared.fact.Fact.{Fact}
use Rattle.dual_walk.specs.declared.fact.Why.TheVariants.{Start}
use Rattle.dual_walk.specs.Held.{AreAt}
use Rattle.dual_walk.specs.Rest.{facts_of}
use Rattle.dual_walk.proofs.LawsReaching.{calls_or_not}
use Rattle.dual_walk.proofs.LawsFacts.{at_named}
use Rattle.dual_walk.proofs.LawsRest.{rest_named, rest_same, rest_few}
use Rattle.call_walk.proofs.Entering.{call_explained, entries_held}
use Rattle.call_walk.proofs.walking.enter.Goals as goal

-- the fact that was read
abbrev read : List Fact → ℕ → Fact
read facts at = get_or facts at (record { function = 0; old = 0; new = 0; why = Start })

read_stands : (facts seen : List Fact) (at : ℕ) → seen ≡ facts → at < length facts → slice_get facts at ≡ Some (read seen at)
read_stands facts seen at is within = slice_get-get_or facts at (record { function = 0; old = 0; new = 0; why = Start }) within ∙ ap (λ l. Some (read l at)) (sym is)

read_is : (facts seen : List Fact) (at : ℕ) (d : Fact) → seen ≡ facts → slice_get facts at ≡ Some d → read seen at ≡ d
read_is facts seen at d is stands = ap (λ l. read l at) is ∙ get_or_from_slice_get facts at d (record { function = 0; old = 0; new = 0; why = Start }) stands

pub returns-in_default-clause-entered : goal.returns-in_default-clause-entered
returns-in_default-clause-entered g c P P' d f h p p' ok ok' stands at calls =
    let one = read_is (facts_of c.args.walk.now) c.pairs.result.now c.args.at d c.pairs.ensures stands in
    let same = rest_same c.args.both.now.old.now c.args.both.now.new.now c.args.walk.now c.requires.rests P P' ok ok' c.args.at d stands f p p' at in
    let at' = subst (λ (b : Fact). AreAt P P' b.old b.new f p p') (sym one) at in
    absurd (calls_or_not (flow_of P) f p h (c.in_default.ensures.callee P P' f p p' ok ok' same at'.old) calls)

pub returns-in_default-clause-few : goal.returns-in_default-clause-few
returns-in_default-clause-few g c = rest_few c.args.both.now.old.now c.args.both.now.new.now c.args.walk.now c.requires.rests

pub add-requires-clause-explained : goal.add-requires-clause-explained
add-requires-clause-explained g c P P' ok ok' =
    let facts = facts_of c.args.walk.now in
    let from = read c.pairs.result.now c.args.at in
    let stands = read_stands facts c.pairs.result.now c.args.at c.pairs.ensures c.requires.at in
    let n = rest_named c.args.both.now.old.now c.args.both.now.new.now c.args.walk.now c.requires.rests P P' ok ok' c.args.at from stands in
    let at = at_named P P' from n in
    let same = rest_same c.args.both.now.old.now c.args.both.now.new.now c.args.walk.now c.requires.rests P P' ok ok' c.args.at from stands n.name n.point n.other at in
    call_explained P P' facts c.args.at from c.in-Some.callee n stands (c.in-Some.ensures.callee P P' n.name n.point n.other ok ok' same n.old)

pub returns-clause-entered : goal.returns-clause-entered
returns-clause-entered g c =
    on_ok_weaker c.add.result
    (λ has P P' d f h p p' ok ok' stands at calls.
    let one = read_is (facts_of c.args.walk.now) c.pairs.result.now c.args.at d c.pairs.ensures stands in
    let same = rest_same c.args.both.now.old.now c.args.both.now.new.now c.args.walk.now c.requires.rests P P' ok ok' c.args.at d stands f p p' at in
    let at' = subst (λ (b : Fact). AreAt P P' b.old b.new f p p') (sym one) at in
    entries_held P P' (facts_of c.add.new.self) f h p c.in-Some.callee (c.in-Some.ensures.callee P P' f p p' ok ok' same at'.old) has calls)
    c.add.ensures.held
