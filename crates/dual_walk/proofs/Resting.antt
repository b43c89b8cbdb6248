-- A walk that comes to rest: before any pair, as a pair is added, and as one more fact is followed.
use Rattle.std.proofs.Common.{◌≡◌, ℕ, ◌+◌, ◌*◌, ◌<◌, ◌≤◌, ◌^◌, List, [], length, replicate, Some, ap, arith}
use Rattle.std.specs.Prelude.{slice_get}
use Rattle.std.proofs.lemmas.Nat.{mul-add-lt}
use Rattle.flow_graph.specs.Graph.{Tables, point_count, edge_count, way_count_at}
use Rattle.dual_walk.specs.declared.fact.Fact.{Fact}
use Rattle.dual_walk.specs.declared.pairs.Pairs.{Pairs}
use Rattle.dual_walk.specs.declared.walking.Walk.{Walk}
use Rattle.dual_walk.specs.Held.{Extends}
use Rattle.dual_walk.specs.Rows.{count_all}
use Rattle.dual_walk.specs.Moments.{IsMoment, AreWaiting, AreDone}
use Rattle.dual_walk.specs.Rest.{facts_of, asked_of, IsUnderWay, IsAtRest}
use Rattle.dual_walk.proofs.LawsLists.{get_some}
use Rattle.dual_walk.proofs.LawsFacts.{extends_long}
use Rattle.dual_walk.proofs.Explaining.{moment_none}
use Rattle.dual_walk.proofs.Following.{waiting_none, waiting_extends, done_none, done_extends}
use Rattle.dual_walk.proofs.Counting.{none_counted, allowed_within, paid_now, paid_next, paid_more, paid_extends}

-- numbers of 32 bits have a product of 64
pub few_product : (m n : ℕ) → m < 2 ^ 32 → n < 2 ^ 32 → m * n < 2 ^ 64
few_product m n a b = let k = mul-add-lt m (2 ^ 32) 0 (2 ^ 32) a (omega arith) in grind arith

-- a walk without a pair
pub none_rests : (g g' : Tables) (pairs : Pairs) (waiting : List (List ℕ)) → pairs.facts.items ≡ [] → pairs.held.height ≡ point_count g → pairs.held.width ≡ point_count g' → (c : ℕ) → waiting ≡ replicate c [] → c ≡ point_count g → edge_count g * point_count g' < 2 ^ 64
    → IsAtRest g g' (record { pairs = pairs; waiting = waiting; next = 0; asked = 0 })
none_rests g g' pairs waiting none height width c is count few = record {
  under_way = record {
    moment = moment_none g g' pairs none height width;
    few = few;
    waiting = waiting_none g g' pairs.facts.items waiting c is count;
    upto = omega arith;
    done = done_none g g' pairs.facts.items waiting;
    paid = let empty = none_counted waiting c is in omega (arith, empty);
  };
  all = let empty = ap (λ (l : List Fact). length l) none in omega (arith, empty);
}

module _ (g g' : Tables) (walk : Walk) (ok : IsUnderWay g g' walk) where
  -- no more is asked than there are edges times points
  pub asked_few : asked_of walk ≤ edge_count g * point_count g'
  asked_few =
      let all = allowed_within g g' (facts_of walk) ok.moment.book in
      let paid = paid_now g (facts_of walk) walk.next (asked_of walk) (count_all walk.waiting) ok.paid in
      omega (arith, all, paid)

  -- a pair is added
  pub with_pair : (pairs : Pairs) → IsMoment g g' pairs → Extends (facts_of walk) pairs.facts.items → IsUnderWay g g' (record walk { pairs = pairs })
  with_pair pairs moment grows = record {
    moment = moment;
    few = ok.few;
    waiting = waiting_extends g g' walk.waiting grows ok.waiting;
    upto = let l = extends_long grows in let u = ok.upto in omega (arith, l, u);
    done = record { each = λ P P' graph graph'. done_extends P P' walk.waiting walk.next grows ok.upto (ok.done.each P P' graph graph') };
    paid = paid_extends g (facts_of walk) walk.next (asked_of walk) (count_all walk.waiting) ok.paid pairs.facts.items ok.upto grows;
  }

  -- the next fact is followed
  module _ (within : walk.next < length (facts_of walk)) where
    pub next_asks : (c : Fact) → slice_get (facts_of walk) walk.next ≡ Some c → asked_of walk + count_all walk.waiting + way_count_at g c.old ≤ edge_count g * point_count g'
    next_asks c stands =
        let all = allowed_within g g' (facts_of walk) ok.moment.book in
        let next = paid_next g (facts_of walk) walk.next (asked_of walk) (count_all walk.waiting) ok.paid within c stands in
        omega (arith, all, next)

    pub asks_few : (asked : ℕ) → ((c : Fact) → slice_get (facts_of walk) walk.next ≡ Some c → asked ≤ asked_of walk + count_all walk.waiting + way_count_at g c.old) → asked ≤ edge_count g * point_count g'
    asks_few asked one = let c = get_some (facts_of walk) walk.next within in let now = one c.0 c.1 in let all = next_asks c.0 c.1 in omega (arith, now, all)

    pub followed : (pairs : Pairs) (waiting : List (List ℕ)) (asked : ℕ) → IsMoment g g' pairs → Extends (facts_of walk) pairs.facts.items → AreWaiting g g' pairs.facts.items waiting → AreDone g g' pairs.facts.items waiting (walk.next + 1)
        → ((c : Fact) → slice_get (facts_of walk) walk.next ≡ Some c → asked + count_all waiting ≤ asked_of walk + count_all walk.waiting + way_count_at g c.old)
        → IsUnderWay g g' (record { pairs = pairs; waiting = waiting; next = walk.next + 1; asked = asked })
    followed pairs waiting asked moment grows are done left = record {
      moment = moment;
      few = ok.few;
      waiting = are;
      upto = let l = extends_long grows in omega (arith, l, within);
      done = done;
      paid = paid_more g (facts_of walk) walk.next (asked_of walk) (count_all walk.waiting) ok.paid pairs.facts.items asked (count_all waiting) within grows left;
    }
