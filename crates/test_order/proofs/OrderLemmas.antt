-- An order, place by place.
use Rattle.std.proofs.Common.{◌≡◌, ◌==◌, ◌<◌, ◌≤◌, ℕ, Bool, true, false, not, ◌⊎◌, inl, inr, List, [], ◌∷◌, ◌++◌, length, get_or, take, map, refl, sym, ap, ◌∙◌, subst, arith, true≢false, ◌||◌, append-nil, append_assoc}
use Rattle.std.specs.Prelude.{All}
use Rattle.std.proofs.lemmas.Bool.{cases_lt, and_parts, and_cases, not-false, eq-eqb, or_right}
use Rattle.std.proofs.lemmas.List.{get_or-map, get_or_append_left, get_or_at, take-append-le, take_at, length_push, get_or_default, length-map}
use Rattle.std.proofs.lemmas.List.Elements.{All-push}
use Rattle.std.proofs.lemmas.List.Folds.{Any-from_list_any, list_any_at}
use Rattle.std.proofs.lemmas.Bool.{eqb-true}
use Rattle.test_history.specs.Histories.{EntryParts, HaveRows}
use Rattle.test_select.specs.declared.choice.Choice.{Choice}
use Rattle.test_order.specs.declared.placed.Placed.{Placed}
use Rattle.test_order.specs.Orders.{covered, gain_after, is_selected_at, is_placed, is_waiting, IsNotBehind, IsNext, IsOrder}
use Rattle.test_order.specs.Counts.{gain_beyond, counted, without_gain, IsFirstOfTests, is_among, AreWaiting}
use Rattle.test_order.proofs.GainLemmas.{gain_is, gain_falls}
use Rattle.test_order.proofs.WaitingLemmas.{selected_within, first_least, waiting_rest}

-- the beginning of an order, and the tests that still wait
pub record IsBegun (entries : List EntryParts) (choices : List Choice) (placed : List Placed) (tests : List ℕ) : Type 0 where
  pub stand : All (λ place. place.at < length entries) placed
  pub each : (k : ℕ) (d : Placed) → k < length placed → IsNext entries choices (take k placed) (get_or placed k d)
  pub waiting : AreWaiting choices placed tests

-- before the first place
pub begun_none : (entries : List EntryParts) (choices : List Choice) (waiting : List ℕ) → AreWaiting choices [] waiting → IsBegun entries choices [] waiting
begun_none entries choices waiting waits = record {
  stand = λ k d below. absurd (omega arith);
  each = λ k d below. absurd (omega arith);
  waiting = waits;
}

-- one more place
pub begun_more : (entries : List EntryParts) (choices : List Choice) (placed : List Placed) (waiting rest : List ℕ) (next : Placed) → IsBegun entries choices placed waiting → IsNext entries choices placed next
    → next.at < length entries → AreWaiting choices (placed ++ next ∷ []) rest → IsBegun entries choices (placed ++ next ∷ []) rest
begun_more entries choices placed waiting rest next begun comes stands waits = record {
  stand = All-push (λ (place : Placed). place.at < length entries) placed next begun.stand stands;
  each = λ k d below. at k d below (cases_lt k (length placed));
  waiting = waits;
}
  where
    at : (k : ℕ) (d : Placed) → k < length (placed ++ next ∷ []) → (k < length placed) ⊎ (length placed ≤ k) → IsNext entries choices (take k (placed ++ next ∷ [])) (get_or (placed ++ next ∷ []) k d)
    at k d below (inl before) =
        rw (take-append-le k placed (next ∷ []) (omega arith), get_or_append_left placed (next ∷ []) d k before) (begun.each k d before)
    at k d below (inr after) =
        let last : length placed ≡ k = omega (arith, length_push placed next, below) in
        rw (take_at placed (next ∷ []) k last, get_or_at placed next [] d k last) comes

-- no test is left
pub order_all : (entries : List EntryParts) (choices : List Choice) (placed : List Placed) → IsBegun entries choices placed [] → IsOrder entries choices placed
order_all entries choices placed begun = record {
  stand = begun.stand;
  each = begun.each;
  all = λ test chosen. at test chosen (and_cases (not (is_placed placed test)) (is_selected_at choices test) (sym (begun.waiting.members test)));
}
  where
    at : (test : ℕ) → is_selected_at choices test ≡ true → (not (is_placed placed test) ≡ false) ⊎ (is_selected_at choices test ≡ false) → is_placed placed test ≡ true
    at test chosen (inl taken) = not-false (is_placed placed test) taken
    at test chosen (inr left) = absurd (true≢false (sym chosen ∙ left))

-- ---- the first of the waiting tests comes next

-- a test that waits stands in the history
pub waits_within : (choices : List Choice) (before : List Placed) (test : ℕ) → is_waiting choices before test ≡ true → test < length choices
waits_within choices before test waits = selected_within choices test (and_parts (not (is_placed before test)) (is_selected_at choices test) waits).1

-- a place among counted tests is of one of them
pub counted_among : (entries : List EntryParts) (seen : List Bool) (tests : List ℕ) (place : Placed) → IsFirstOfTests entries seen tests place → (is_among tests place.at ≡ true) × (place.gain ≡ gain_beyond entries seen place.at)
counted_among entries seen tests place first =
    let k = first.among.0 in
    let below : k < length tests = omega (arith, length-map tests (counted entries seen), first.among.1) in
    let same : counted entries seen (get_or tests k 0) ≡ place = sym (get_or-map (counted entries seen) tests k 0 place below) ∙ first.among.2 in
    let test : get_or tests k 0 ≡ place.at = ap (λ (p : Placed). p.at) same in (
      list_any_at (λ one. one == place.at) tests k 0 below (eq-eqb (get_or tests k 0) place.at test),
      sym (ap (λ (p : Placed). p.gain) same) ∙ ap (gain_beyond entries seen) test,
    )

-- it isn't behind any of them
counted_greatest : (entries : List EntryParts) (seen : List Bool) (tests : List ℕ) (place : Placed) (other : ℕ) → IsFirstOfTests entries seen tests place → is_among tests other ≡ true → IsNotBehind place (gain_beyond entries seen other) other
counted_greatest entries seen tests place other first among =
    let found = Any-from_list_any (λ one. one == other) tests among in
    let k : ℕ = found.0 in
    let below : k < length tests = found.2 in
    let test : get_or tests k 0 ≡ other = get_or_default tests k 0 found.1 below ∙ found.3 ∙ eqb-true found.1 other found.4 in
    let inside : k < length (map (counted entries seen) tests) = omega (arith, length-map tests (counted entries seen), below) in
    let same : get_or (map (counted entries seen) tests) k place ≡ counted entries seen other = get_or-map (counted entries seen) tests k 0 place below ∙ ap (counted entries seen) test in
    subst (λ (p : Placed). IsNotBehind place p.gain p.at) same (first.greatest k place inside)

-- so it comes next
pub comes_next : (entries : List EntryParts) (choices : List Choice) (edges : ℕ) (seen : List Bool) (placed : List Placed) (waiting : List ℕ) (next : Placed) → HaveRows edges entries
    → length choices ≡ length entries → seen ≡ covered entries edges placed → AreWaiting choices placed waiting → IsFirstOfTests entries seen waiting next → IsNext entries choices placed next
comes_next entries choices edges seen placed waiting next rows long same waits first =
    let own = counted_among entries seen waiting next first in
    let wait : is_waiting choices placed next.at ≡ true = sym (waits.members next.at) ∙ own.0 in
    let stands : (test : ℕ) → is_waiting choices placed test ≡ true → test < length entries = λ test waited. omega (arith, waits_within choices placed test waited, long) in
    record {
      waits = wait;
      gain = own.1 ∙ gain_is entries edges next.at seen placed rows (stands next.at wait) same;
      greatest = λ other waited. subst (λ gain. IsNotBehind next gain other) (gain_is entries edges other seen placed rows (stands other waited) same)
          (counted_greatest entries seen waiting next other first (waits.members other ∙ waited));
    }

-- ---- tests that add nothing have the last places, in the order of the history

pub rest_placed : (entries : List EntryParts) (choices : List Choice) (placed : List Placed) (tests : List ℕ) → length choices ≡ length entries → IsBegun entries choices placed tests
    → ((test : ℕ) → is_among tests test ≡ true → gain_after entries placed test ≡ 0) → IsOrder entries choices (placed ++ map without_gain tests)
rest_placed entries choices placed [] long begun none = rw (append-nil placed) (order_all entries choices placed begun)
rest_placed entries choices placed (test ∷ tests) long begun none =
    let next : Placed = without_gain test in
    let among : is_among (test ∷ tests) test ≡ true = ap (λ b. b || is_among tests test) (eq-eqb test test refl) in
    let waits : is_waiting choices placed test ≡ true = sym (begun.waiting.members test) ∙ among in
    let comes : IsNext entries choices placed next = record {
      waits = waits;
      gain = sym (none test among);
      greatest = λ other waited.
          let wait : is_among (test ∷ tests) other ≡ true = begun.waiting.members other ∙ waited in
          (omega (arith, none other wait), λ same. first_least test tests other begun.waiting.rising wait);
    } in
    let stands : test < length entries = omega (arith, waits_within choices placed test waits, long) in
    let more = begun_more entries choices placed (test ∷ tests) tests next begun comes stands (waiting_rest choices placed next tests begun.waiting) in
    let rest = rest_placed entries choices (placed ++ next ∷ []) tests long more
    (λ other wait. omega (arith, gain_falls entries placed next other, none other (or_right (test == other) (is_among tests other) wait))) in
    subst (IsOrder entries choices) (append_assoc placed (next ∷ []) (map without_gain tests)) rest

-- where the first of the waiting tests adds nothing, none of them does
pub none_adds : (entries : List EntryParts) (choices : List Choice) (placed : List Placed) (waiting : List ℕ) (next : Placed) → AreWaiting choices placed waiting → IsNext entries choices placed next → next.gain ≡ 0
    → (test : ℕ) → is_among waiting test ≡ true → gain_after entries placed test ≡ 0
none_adds entries choices placed waiting next waits comes none test among = omega (arith, (comes.greatest test (sym (waits.members test) ∙ among)).0, none)
