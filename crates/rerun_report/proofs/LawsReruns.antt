-- Laws of tests that ran again, for proofs above.
use Rattle.std.proofs.Common.{◌≡◌, ◌↔◌, ℕ, ◌+◌, Bool, true, false, not, ◌&&◌, cond, List, [], ◌∷◌, nat_eq, refl, sym, ap, ◌∙◌, arith}
use Rattle.std.specs.List.{All, count_by}
use Rattle.std.specs.Str.{bytes_eq}
use Rattle.std.proofs.lemmas.Bool.{eqb-true, eq-eqb, and_parts, and_from}
use Rattle.std.proofs.lemmas.List.Sums.{sum_by-cons}
use Rattle.std.proofs.lemmas.List.Elements.{All-nil, All-cons, All-head, All-tail}
use Rattle.std.proofs.lemmas.Slice.Eq.{bytes_eq-Decides}
use Rattle.csub_types.specs.declared.trap.Trap.{Trap}
use Rattle.csub_types.specs.declared.trap.Trap.TheVariants.{Overflow, Divide, Shift, Bounds, Unset, Flood, Depth, Missing}
use Rattle.csub_semantics.specs.declared.status.Status.{Status}
use Rattle.csub_semantics.specs.declared.status.Status.TheVariants as status
use Rattle.test_history.specs.Histories.{EntryParts}
use Rattle.test_select.specs.declared.choice.Choice.{Choice}
use Rattle.rerun_report.specs.Reruns.{Outcome, was_left, ran_again, outcomes, trap_eq, status_eq, BehavesAs, behaves_as, differs, differ_count, IsSame, AllSame}

-- the test of traps decides equality
pub same_trap : (a b : Trap) → trap_eq a b ≡ true → a ≡ b
same_trap Overflow Overflow e = refl
same_trap Overflow _ e = cc
same_trap Divide Divide e = refl
same_trap Divide _ e = cc
same_trap Shift Shift e = refl
same_trap Shift _ e = cc
same_trap Bounds Bounds e = refl
same_trap Bounds _ e = cc
same_trap Unset Unset e = refl
same_trap Unset _ e = cc
same_trap Flood Flood e = refl
same_trap Flood _ e = cc
same_trap Depth Depth e = refl
same_trap Depth _ e = cc
same_trap Missing Missing e = refl
same_trap Missing _ e = cc

pub trap_itself : (a : Trap) → trap_eq a a ≡ true
trap_itself Overflow = refl
trap_itself Divide = refl
trap_itself Shift = refl
trap_itself Bounds = refl
trap_itself Unset = refl
trap_itself Flood = refl
trap_itself Depth = refl
trap_itself Missing = refl

-- so does that of statuses
pub same_status : (a b : Status) → status_eq a b ≡ true → a ≡ b
same_status (status.Exit m) (status.Exit n) e = let same : m ≡ n = eqb-true m n e in cc
same_status (status.Exit m) _ e = cc
same_status (status.Trap a) (status.Trap b) e = let same : a ≡ b = same_trap a b e in cc
same_status (status.Trap a) _ e = cc
same_status status.Turns status.Turns e = refl
same_status status.Turns _ e = cc

pub status_itself : (a : Status) → status_eq a a ≡ true
status_itself (status.Exit n) = eq-eqb n n refl
status_itself (status.Trap a) = trap_itself a
status_itself status.Turns = refl

-- the test of a run decides whether it behaves as an entry tells
pub behaves : (entry result : EntryParts) → behaves_as entry result ≡ true → BehavesAs entry result
behaves entry result e =
    let outputs = and_parts (bytes_eq entry.output result.output) (status_eq entry.status result.status && nat_eq entry.turns result.turns) e in
    let others = and_parts (status_eq entry.status result.status) (nat_eq entry.turns result.turns) outputs.1 in
    record {
      output = (bytes_eq-Decides entry.output result.output).0 outputs.0;
      status = same_status entry.status result.status others.0;
      turns = eqb-true entry.turns result.turns others.1;
    }

pub behaves_test : (entry result : EntryParts) → BehavesAs entry result → behaves_as entry result ≡ true
behaves_test entry result h =
    and_from (bytes_eq entry.output result.output) (status_eq entry.status result.status && nat_eq entry.turns result.turns)
    ((bytes_eq-Decides entry.output result.output).1 h.output)
    (and_from (status_eq entry.status result.status) (nat_eq entry.turns result.turns)
    (ap (status_eq entry.status) (sym h.status) ∙ status_itself entry.status)
    (eq-eqb entry.turns result.turns h.turns))

-- one test, and those behind it
counted : (test : Outcome) (tests : List Outcome) → count_by differs (test ∷ tests) ≡ cond (differs test) 1 0 + count_by differs tests
counted test tests = sum_by-cons (λ other. cond (differs other) 1 0) test tests

none_more : (b : Bool) (n : ℕ) → cond (not b) 1 0 + n ≡ 0 → (b ≡ true) × (n ≡ 0)
none_more true n e = (refl, omega arith)
none_more false n e = absurd (omega arith)

more_none : (b : Bool) (n : ℕ) → b ≡ true → n ≡ 0 → cond (not b) 1 0 + n ≡ 0
more_none true n h e = omega arith
more_none false n h e = cc

-- none of these tests differs exactly where each that ran again behaves as its entry tells
pub none_differs : (tests : List Outcome) → count_by differs tests ≡ 0 → All IsSame tests
none_differs [] e = All-nil IsSame
none_differs (was_left entry ∷ tests) e = All-cons IsSame (was_left entry) tests tt (none_differs tests e)
none_differs (ran_again entry result ∷ tests) e =
    let more = none_more (behaves_as entry result) (count_by differs tests) (sym (counted (ran_again entry result) tests) ∙ e) in
    All-cons IsSame (ran_again entry result) tests (behaves entry result more.0) (none_differs tests more.1)

pub all_same : (tests : List Outcome) → All IsSame tests → count_by differs tests ≡ 0
all_same [] h = refl
all_same (was_left entry ∷ tests) h = all_same tests (All-tail IsSame (was_left entry) tests h)
all_same (ran_again entry result ∷ tests) h =
    counted (ran_again entry result) tests
    ∙ more_none (behaves_as entry result) (count_by differs tests) (behaves_test entry result (All-head IsSame (ran_again entry result) tests h))
    (all_same tests (All-tail IsSame (ran_again entry result) tests h))

-- no test of a history differs exactly where each selected entry and its result have the same output, status and turns
pub differ_none : (entries : List EntryParts) (choices : List Choice) (results : List EntryParts)
    → (differ_count entries choices results ≡ 0) ↔ AllSame entries choices results
differ_none entries choices results = (none_differs (outcomes entries choices results), all_same (outcomes entries choices results))
