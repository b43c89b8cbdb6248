use Rattle.std.proofs.Common.{◌≡◌, ◌<◌, ◌≤◌, ℕ, Bool, true, false, not, sym, ◌∙◌, inr, arith}
use Rattle.std.specs.declared.cmp.Ordering.{Ordering}
use Rattle.std.specs.declared.cmp.Ordering.TheVariants.{Less, Equal, Greater}
use Rattle.std.specs.Ordering.{MatchOrdering, is_lt, nat_cmp}
use Rattle.std.specs.Cmp.{ranks}
use Rattle.csub_semantics.specs.Points.{next}
use Rattle.dual_walk.specs.Moments.{HoldsNext}
use Rattle.dual_walk.proofs.LawsNumbers.{leaves_own}
use Rattle.dual_walk.proofs.Explaining.{on_ok_2}
use Rattle.dual_walk.proofs.Following.{waited, no_way, passed_by}
use Rattle.dual_walk.proofs.LawsFacts.{extends_none}
use Rattle.std.proofs.lemmas.Option.{slice_get_within}
use Rattle.dual_walk.proofs.follow.follow_call.Goals as goal

-- what the test of a range says
empty_range : (start end : ℕ) (empty : Bool) → empty ≡ not (is_lt (nat_cmp start end)) → empty ≡ true → end ≤ start
empty_range start end empty is t = pick (nat_cmp start end) (ranks start end) (sym is ∙ t)
  where
    pick : (r : Ordering) → MatchOrdering r (start < end) (start ≡ end) (end < start) → not (is_lt r) ≡ true → end ≤ start
    pick Less h e = absurd cc
    pick Equal h e = omega (arith, h)
    pick Greater h e = omega (arith, h)

some_range : (start end : ℕ) (empty : Bool) → empty ≡ not (is_lt (nat_cmp start end)) → empty ≡ false → start < end
some_range start end empty is f = pick (nat_cmp start end) (ranks start end) (sym is ∙ f)
  where
    pick : (r : Ordering) → MatchOrdering r (start < end) (start ≡ end) (end < start) → not (is_lt r) ≡ false → start < end
    pick Less h e = h
    pick Equal h e = absurd cc
    pick Greater h e = absurd cc

pub edges_of-requires : goal.edges_of-requires
edges_of-requires g c = (c.requires.moment.book.within c.args.at c.args.from c.requires.stands).old

pub returns-then-is_empty-clause-followed : goal.returns-then-is_empty-clause-followed
returns-then-is_empty-clause-followed g c P P' ok ok' =
    waited P P' ok.valid c.args.pairs.now.facts.items c.args.waiting.now c.args.at c.args.from c.args.callee (λ f p p' at. c.requires.callee P P' f p p' c.args.from ok ok' c.requires.stands at) (inr none)
    (passed_by P P' c.args.pairs.now.facts.items c.args.from none)
  where
    empty : c.edges_of.result.end ≤ c.edges_of.result.start
    empty = empty_range c.edges_of.result.start c.edges_of.result.end c.is_empty.result c.is_empty.ensures c.if-is_empty.true

    none : HoldsNext P P' c.args.pairs.now.facts.items c.args.from next
    none = no_way P P' ok.valid c.args.pairs.now.facts.items c.args.from (λ e leaves. let own = leaves_own c.args.both.now.old.now c.args.from.old c.edges_of.result.start c.edges_of.result.end c.edges_of.ensures.edges P ok e leaves in let from = own.0 in let upto = own.1 in omega (arith, empty, from, upto)) next

pub pass_or_wait-requires-clause-room : goal.pass_or_wait-requires-clause-room
pass_or_wait-requires-clause-room g c =
    let some = some_range c.edges_of.result.start c.edges_of.result.end c.is_empty.result c.is_empty.ensures c.if-is_empty.false in
    let count = c.edges_of.ensures.count in
    let room = c.requires.room in
    omega (arith, some, count, room)

pub returns-clause-followed : goal.returns-clause-followed
returns-clause-followed g c =
    on_ok_2 c.pass_or_wait.result
    (λ own over P P' ok ok'. waited P P' ok.valid c.pass_or_wait.new.pairs.facts.items c.pass_or_wait.new.waiting c.args.at c.args.from c.args.callee (λ f p p' at. c.requires.callee P P' f p p' c.args.from ok ok' c.requires.stands at) (own P P' c.args.from ok ok' c.requires.stands) (over P P' c.args.from ok ok' c.requires.stands))
    c.pass_or_wait.ensures.own c.pass_or_wait.ensures.over

pub returns-clause-cost : goal.returns-clause-cost
returns-clause-cost g c =
    let cost = c.pass_or_wait.ensures.cost in
    let some = some_range c.edges_of.result.start c.edges_of.result.end c.is_empty.result c.is_empty.ensures c.if-is_empty.false in
    let count = c.edges_of.ensures.count in
    omega (arith, cost, some, count)

pub returns-then-is_empty-clause-grows : goal.returns-then-is_empty-clause-grows
returns-then-is_empty-clause-grows g c = extends_none

pub pass_or_wait-requires-clause-at : goal.pass_or_wait-requires-clause-at
pass_or_wait-requires-clause-at g c = slice_get_within c.args.pairs.now.facts.items c.args.at c.args.from c.requires.stands
