-- The tests that wait.
use Rattle.std.proofs.Common.{◌≡◌, ◌==◌, ◌<◌, ◌≤◌, ◌+◌, ℕ, zero, suc, Bool, true, false, not, ◌&&◌, ◌||◌, ◌⊎◌, inl, inr, ltb, List, [], ◌∷◌, ◌++◌, length, get_or, refl, sym, ap, ◌∙◌, subst, arith, true≢false}
use Rattle.std.specs.Prelude.{All, AllPairs}
use Rattle.std.specs.List.{filter}
use Rattle.std.proofs.lemmas.Bool.{cases_lt, cases_order, cases_eq, lt-ltb, le-ltb, eq-eqb, ne_eqb, eqb-true, and_right}
use Rattle.std.proofs.lemmas.List.{get_or_past, nil_from_length}
use Rattle.std.proofs.lemmas.List.Folds.{list_any-append, Any-from_list_any}
use Rattle.std.proofs.lemmas.List.Filters.{length-filter_both}
use Rattle.std.proofs.lemmas.List.Kept.{AllPairs-filter}
use Rattle.std.proofs.lemmas.List.Quantifiers.{all_pairs_push}
use Rattle.std.proofs.lemmas.List.Elements.{All-push, All-head, All-tail}
use Rattle.std.proofs.lemmas.Map.Views.{any-filter_same}
use Rattle.test_select.specs.declared.choice.Choice.{Choice}
use Rattle.test_select.specs.declared.choice.Choice.TheVariants.{Left}
use Rattle.test_select.specs.Selection.{is_selected}
use Rattle.test_order.specs.declared.placed.Placed.{Placed}
use Rattle.test_order.specs.Orders.{is_selected_at, is_placed}
use Rattle.test_order.proofs.GainLemmas.{or_none}
use Rattle.test_order.specs.Counts.{is_among, without, AreWaiting}

-- a selected test stands below the end of the choices
pub selected_within : (choices : List Choice) (test : ℕ) → is_selected_at choices test ≡ true → test < length choices
selected_within choices test chosen = at (cases_lt test (length choices))
  where
    at : (test < length choices) ⊎ (length choices ≤ test) → test < length choices
    at (inl below) = below
    at (inr past) = absurd (true≢false (sym chosen ∙ ap is_selected (get_or_past choices test Left past)))

-- ---- the selected tests, choice by choice

-- these are the selected tests below a place, in the order of the history
pub record AreSelected (choices : List Choice) (place : ℕ) (tests : List ℕ) : Type 0 where
  pub members : (test : ℕ) → is_among tests test ≡ (ltb test place && is_selected_at choices test)
  pub under : All (λ test. test < place) tests
  pub rising : AllPairs (λ test later. test < later) tests

-- no choice yet
pub selected_none : (choices : List Choice) → AreSelected choices 0 []
selected_none choices = record {
  members = λ test. let none : ltb test 0 ≡ false = le-ltb test 0 (omega arith) in rw none refl;
  under = λ k d below. absurd (omega arith);
  rising = λ i j d before below. absurd (omega arith);
}

-- whether a test is among the selected ones below one more place, where that place is taken or left
member_more : (s a : Bool) (test place : ℕ) → a ≡ (ltb test place && s) → (test ≡ place → s ≡ true) → (a || ((place == test) || false)) ≡ (ltb test (place + 1) && s)
member_more s a test place held here = at (cases_order test place)
  where
    at : (test ≡ place) ⊎ ((test < place) ⊎ (place < test)) → (a || ((place == test) || false)) ≡ (ltb test (place + 1) && s)
    at (inl same) =
        let under : ltb test place ≡ false = le-ltb test place (omega arith) in
        let equal : (place == test) ≡ true = eq-eqb place test (sym same) in
        let over : ltb test (place + 1) ≡ true = lt-ltb test (place + 1) (omega arith) in
        rw (held, under, equal, over, here same) refl
    at (inr (inl below)) =
        let under : ltb test place ≡ true = lt-ltb test place below in
        let equal : (place == test) ≡ false = ne_eqb place test (λ same. absurd (omega arith)) in
        let over : ltb test (place + 1) ≡ true = lt-ltb test (place + 1) (omega arith) in
        rw (held, under, equal, over) (or_none s)
    at (inr (inr above)) =
        let under : ltb test place ≡ false = le-ltb test place (omega arith) in
        let equal : (place == test) ≡ false = ne_eqb place test (λ same. absurd (omega arith)) in
        let over : ltb test (place + 1) ≡ false = le-ltb test (place + 1) (omega arith) in
        rw (held, under, equal, over) refl

member_left : (s : Bool) (test place : ℕ) → (test ≡ place → s ≡ false) → (ltb test place && s) ≡ (ltb test (place + 1) && s)
member_left s test place here = at (cases_order test place)
  where
    at : (test ≡ place) ⊎ ((test < place) ⊎ (place < test)) → (ltb test place && s) ≡ (ltb test (place + 1) && s)
    at (inl same) =
        let under : ltb test place ≡ false = le-ltb test place (omega arith) in
        let over : ltb test (place + 1) ≡ true = lt-ltb test (place + 1) (omega arith) in
        rw (under, over, here same) refl
    at (inr (inl below)) =
        let under : ltb test place ≡ true = lt-ltb test place below in
        let over : ltb test (place + 1) ≡ true = lt-ltb test (place + 1) (omega arith) in
        rw (under, over) refl
    at (inr (inr above)) =
        let under : ltb test place ≡ false = le-ltb test place (omega arith) in
        let over : ltb test (place + 1) ≡ false = le-ltb test (place + 1) (omega arith) in
        rw (under, over) refl

-- one more choice: selected
pub selected_more : (choices : List Choice) (place : ℕ) (tests : List ℕ) → AreSelected choices place tests → is_selected_at choices place ≡ true → AreSelected choices (place + 1) (tests ++ place ∷ [])
selected_more choices place tests held chosen = record {
  members = λ test. list_any-append (λ one. one == test) tests (place ∷ []) ∙ member_more (is_selected_at choices test) (is_among tests test) test place (held.members test) (λ same. ap (is_selected_at choices) same ∙ chosen);
  under = All-push (λ test. test < place + 1) tests place (λ k d below. omega (arith, held.under k d below)) (omega arith);
  rising = all_pairs_push (λ test later. test < later) tests place held.rising held.under;
}

-- one more choice: left
pub selected_less : (choices : List Choice) (place : ℕ) (tests : List ℕ) → AreSelected choices place tests → is_selected_at choices place ≡ false → AreSelected choices (place + 1) tests
selected_less choices place tests held left = record {
  members = λ test. held.members test ∙ member_left (is_selected_at choices test) test place (λ same. ap (is_selected_at choices) same ∙ left);
  under = λ k d below. omega (arith, held.under k d below);
  rising = held.rising;
}

-- at the end they are all that wait before the first place
pub selected_all : (choices : List Choice) (place : ℕ) (tests : List ℕ) → AreSelected choices place tests → length choices ≤ place → AreWaiting choices [] tests
selected_all choices place tests held end = record {
  members = λ test. held.members test ∙ at test (cases_lt test place);
  rising = held.rising;
}
  where
    at : (test : ℕ) → (test < place) ⊎ (place ≤ test) → (ltb test place && is_selected_at choices test) ≡ is_selected_at choices test
    at test (inl below) = let under : ltb test place ≡ true = lt-ltb test place below in rw under refl
    at test (inr past) =
        let left : is_selected_at choices test ≡ false = ap is_selected (get_or_past choices test Left (omega arith)) in
        and_right (ltb test place) (is_selected_at choices test) left ∙ sym left

-- ---- one test less

among_filter : (p : ℕ → Bool) (tests : List ℕ) (test : ℕ) → is_among (filter p tests) test ≡ (p test && is_among tests test)
among_filter p tests test = any-filter_same (λ one. one == test) p (p test) (λ one same. ap p (eqb-true one test same)) tests

-- the test that was just placed waits no more
placed_anyway : (p s : Bool) → false ≡ (not (p || true) && s)
placed_anyway true s = refl
placed_anyway false s = refl

member_less : (placed : Bool) (s : Bool) (gone test : ℕ) → (not (test == gone) && (not placed && s)) ≡ (not (placed || ((gone == test) || false)) && s)
member_less placed s gone test = at placed (cases_eq test gone)
  where
    at : (p : Bool) → (test ≡ gone) ⊎ (test ≡ gone → ⊥) → (not (test == gone) && (not p && s)) ≡ (not (p || ((gone == test) || false)) && s)
    at p (inl same) = let first : (test == gone) ≡ true = eq-eqb test gone same in let second : (gone == test) ≡ true = eq-eqb gone test (sym same) in rw (first, second) (placed_anyway p s)
    at p (inr other) =
        let first : (test == gone) ≡ false = ne_eqb test gone other in
        let second : (gone == test) ≡ false = ne_eqb gone test (λ same. other (sym same)) in
        rw (first, second, or_none p) refl

-- the others wait on
pub waiting_less : (choices : List Choice) (placed : List Placed) (waiting : List ℕ) (next : Placed) → AreWaiting choices placed waiting → AreWaiting choices (placed ++ next ∷ []) (without next.at waiting)
waiting_less choices placed waiting next held = record {
  members = λ test.
      among_filter (λ one. not (one == next.at)) waiting test ∙ ap (λ b. not (test == next.at) && b) (held.members test)
      ∙ member_less (is_placed placed test) (is_selected_at choices test) next.at test
      ∙ ap (λ b. not b && is_selected_at choices test) (sym (list_any-append (λ place. place.at == test) placed (next ∷ [])));
  rising = AllPairs-filter (λ test later. test < later) (λ one. not (one == next.at)) waiting held.rising;
}

twice : (b : Bool) → b ≡ not (not b)
twice true = refl
twice false = refl

-- it is shorter where that one was among them
pub without_shorter : (gone : ℕ) (tests : List ℕ) → is_among tests gone ≡ true → length (without gone tests) < length tests
without_shorter gone tests among = at (cases_eq (length (filter (λ test. test == gone) tests)) 0)
  where
    both : length (without gone tests) + length (filter (λ test. test == gone) tests) ≡ length tests
    both = length-filter_both (λ test. not (test == gone)) (λ test. test == gone) (λ test. twice (test == gone)) tests

    found : is_among (filter (λ test. test == gone) tests) gone ≡ true
    found = among_filter (λ test. test == gone) tests gone ∙ ap (λ b. b && is_among tests gone) (eq-eqb gone gone refl) ∙ among

    at : (length (filter (λ test. test == gone) tests) ≡ 0) ⊎ (length (filter (λ test. test == gone) tests) ≡ 0 → ⊥) → length (without gone tests) < length tests
    at (inl none) = absurd (true≢false (sym found ∙ ap (λ kept. is_among kept gone) (nil_from_length (filter (λ test. test == gone) tests) none)))
    at (inr some) = omega (arith, both, some)

-- ---- the rest, test by test

-- the first of tests in the order of the history is the earliest
pub first_least : (test : ℕ) (tests : List ℕ) (other : ℕ) → AllPairs (λ one later. one < later) (test ∷ tests) → is_among (test ∷ tests) other ≡ true → test ≤ other
first_least test tests other rising among =
    let found = Any-from_list_any (λ one. one == other) (test ∷ tests) among in
    let same : found.1 ≡ other = eqb-true found.1 other found.4 in
    at found.0 found.1 found.2 (found.3 ∙ same)
  where
    at : (k d : ℕ) → k < length (test ∷ tests) → get_or (test ∷ tests) k d ≡ other → test ≤ other
    at zero d below is = omega (arith, is)
    at (suc k) d below is = omega (arith, is, rising 0 (suc k) d (omega arith) below)

-- nothing goes where all stand later
without_same : (test : ℕ) (tests : List ℕ) → All (λ later. test < later) tests → without test tests ≡ tests
without_same test [] later = refl
without_same test (one ∷ tests) later =
    let other : (one == test) ≡ false = ne_eqb one test (λ same. absurd (omega (arith, All-head (λ later. test < later) one tests later))) in
    rw other (ap (λ kept. one ∷ kept) (without_same test tests (All-tail (λ later. test < later) one tests later)))

-- the others wait where the first was placed
pub waiting_rest : (choices : List Choice) (placed : List Placed) (next : Placed) (tests : List ℕ) → AreWaiting choices placed (next.at ∷ tests) → AreWaiting choices (placed ++ next ∷ []) tests
waiting_rest choices placed next tests held =
    let later : All (λ later. next.at < later) tests = λ k d below. held.rising 0 (suc k) d (omega arith) (omega arith) in
    let first : (next.at == next.at) ≡ true = eq-eqb next.at next.at refl in
    let same : without next.at (next.at ∷ tests) ≡ tests = rw first (without_same next.at tests later) in
    subst (AreWaiting choices (placed ++ next ∷ [])) same (waiting_less choices placed (next.at ∷ tests) next held)
