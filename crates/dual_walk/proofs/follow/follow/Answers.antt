use Rattle.std.proofs.Common.{◌≡◌, ◌<◌, ℕ, List, length, get_or, Some, sym, ap, ◌∙◌, arith}
use Rattle.std.specs.Prelude.{slice_get}
use Rattle.std.proofs.lemmas.Option.{same_Some}
use Rattle.std.proofs.lemmas.Result.{on_ok_weaker}
use Rattle.flow_graph.specs.Graph.{Tables, way_count_at}
use Rattle.dual_walk.specs.declared.fact.Fact.{Fact}
use Rattle.dual_walk.proofs.LawsLists.{read_at}
use Rattle.dual_walk.proofs.LawsFacts.{extends_more, get_extends}
use Rattle.dual_walk.proofs.Following.{done_more}
use Rattle.dual_walk.proofs.follow.follow.Goals as goal

-- the edges of a fact that was read
read_count : (g : Tables) (facts : List Fact) (at : ℕ) (from d : Fact) → at < length facts → from ≡ get_or facts at from → slice_get facts at ≡ Some d → way_count_at g from.old ≡ way_count_at g d.old
read_count g facts at from d within read stands = ap (λ (b : Fact). way_count_at g b.old) (same_Some from d (sym (read_at facts at from within read) ∙ stands))

pub returns-clause-done : goal.returns-clause-done
returns-clause-done g c =
    on_ok_weaker c.resume.result
    (λ resumed. record {
      each = λ P P' ok ok'. done_more P P' c.args.pairs.now.facts.items c.follow_own.new.pairs.facts.items c.resume.new.pairs.facts.items c.args.waiting.now c.follow_own.new.waiting c.resume.new.waiting c.args.at c.index-from.result.now c.follow_own.ensures.grows c.resume.ensures.grows c.requires.at
          (read_at c.args.pairs.now.facts.items c.args.at c.index-from.result.now c.requires.at c.index-from.ensures)
          c.in_ok-follow_own.ensures.waits (c.requires.done.each P P' ok ok') (c.in_ok-follow_own.ensures.followed P P' ok ok') (resumed P P' ok ok');
    })
    c.resume.ensures.resumed

pub returns-clause-cost : goal.returns-clause-cost
returns-clause-cost g c d stands =
    let own = c.follow_own.ensures.cost in
    let rest = c.resume.ensures.cost in
    let same = read_count c.args.both.now.old.now c.args.pairs.now.facts.items c.args.at c.index-from.result.now d c.requires.at c.index-from.ensures stands in
    omega (arith, own, rest, same)

pub returns-clause-left : goal.returns-clause-left
returns-clause-left g c =
    on_ok_weaker c.resume.result
    (λ rest d stands.
    let own = c.follow_own.ensures.cost in
    let same = read_count c.args.both.now.old.now c.args.pairs.now.facts.items c.args.at c.index-from.result.now d c.requires.at c.index-from.ensures stands in
    omega (arith, own, rest, same))
    c.resume.ensures.left

pub returns-in_err-follow_own-clause-cost : goal.returns-in_err-follow_own-clause-cost
returns-in_err-follow_own-clause-cost g c d stands =
    let own = c.follow_own.ensures.cost in
    let same = read_count c.args.both.now.old.now c.args.pairs.now.facts.items c.args.at c.index-from.result.now d c.requires.at c.index-from.ensures stands in
    omega (arith, own, same)

pub follow_own-requires-clause-stands : goal.follow_own-requires-clause-stands
follow_own-requires-clause-stands g c = read_at c.args.pairs.now.facts.items c.args.at c.index-from.result.now c.requires.at c.index-from.ensures

pub follow_own-requires-clause-room : goal.follow_own-requires-clause-room
follow_own-requires-clause-room g c =
    let room = c.requires.room c.index-from.result.now (read_at c.args.pairs.now.facts.items c.args.at c.index-from.result.now c.requires.at c.index-from.ensures) in
    omega (arith, room)

pub resume-requires-clause-waiting : goal.resume-requires-clause-waiting
resume-requires-clause-waiting g c = c.in_ok-follow_own.ensures.waiting

pub resume-requires-clause-stands : goal.resume-requires-clause-stands
resume-requires-clause-stands g c =
    get_extends c.follow_own.ensures.grows c.args.at c.index-from.result.now (read_at c.args.pairs.now.facts.items c.args.at c.index-from.result.now c.requires.at c.index-from.ensures)

pub resume-requires-clause-room : goal.resume-requires-clause-room
resume-requires-clause-room g c =
    let room = c.requires.room c.index-from.result.now (read_at c.args.pairs.now.facts.items c.args.at c.index-from.result.now c.requires.at c.index-from.ensures) in
    let cost = c.follow_own.ensures.cost in
    omega (arith, room, cost)

pub returns-clause-grows : goal.returns-clause-grows
returns-clause-grows g c = extends_more c.follow_own.ensures.grows c.resume.ensures.grows

pub returns-clause-counted : goal.returns-clause-counted
returns-clause-counted g c =
    let own = c.follow_own.ensures.counted in
    let rest = c.resume.ensures.counted in
    omega (arith, own, rest)
