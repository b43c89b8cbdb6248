-- Two orders of the same entries and choices are equal.
use Rattle.std.proofs.Common.{◌≡◌, ◌<◌, ◌≤◌, ℕ, zero, suc, true, not, ◌⊎◌, inl, inr, List, length, get_or, take, refl, sym, ap, ◌∙◌, subst, arith, add-one}
use Rattle.std.proofs.lemmas.Bool.{cases_order, and_parts, not-true, both_ways}
use Rattle.std.proofs.lemmas.List.{take_all, take_more_same}
use Rattle.test_history.specs.Histories.{EntryParts}
use Rattle.test_select.specs.declared.choice.Choice.{Choice}
use Rattle.test_order.specs.declared.placed.Placed.{Placed}
use Rattle.test_order.specs.Orders.{is_selected_at, is_placed, is_waiting, IsNext, IsOrder, OrderIsDetermined}

-- a place is its test and its gain
same_place : (one other : Placed) → one.at ≡ other.at → one.gain ≡ other.gain → one ≡ other
same_place one other at gain =
    let first : one ≡ record { at = other.at; gain = one.gain } = ap (λ (n : ℕ). let place : Placed = record { at = n; gain = one.gain } in place) at in
    first ∙ ap (λ (n : ℕ). let place : Placed = record { at = other.at; gain = n } in place) gain

-- one place comes next
next_same : (entries : List EntryParts) (choices : List Choice) (before : List Placed) (one other : Placed) → IsNext entries choices before one → IsNext entries choices before other → one ≡ other
next_same entries choices before one other first second =
    let fore = first.greatest other.at second.waits in
    let back = second.greatest one.at first.waits in
    let gains : one.gain ≡ other.gain = omega (arith, fore.0, back.0, first.gain, second.gain) in
    let low : one.at ≤ other.at = fore.1 (sym second.gain ∙ sym gains) in
    let high : other.at ≤ one.at = back.1 (sym first.gain ∙ gains) in
    same_place one other (omega (arith, low, high)) gains

-- both begin alike
same_front : (entries : List EntryParts) (choices : List Choice) (one other : List Placed) → IsOrder entries choices one → IsOrder entries choices other → (k : ℕ) → k ≤ length one → k ≤ length other → take k one ≡ take k other
same_front entries choices one other first second zero inside within = refl
same_front entries choices one other first second (suc k) inside within =
    let d : Placed = record { at = 0; gain = 0 } in
    let before : take k one ≡ take k other = same_front entries choices one other first second k (omega arith) (omega arith) in
    let place : get_or one k d ≡ get_or other k d =
    next_same entries choices (take k other) (get_or one k d) (get_or other k d)
    (subst (λ front. IsNext entries choices front (get_or one k d)) before (first.each k d (omega arith))) (second.each k d (omega arith)) in
    rw (← add-one) (take_more_same one other k d (omega arith) (omega arith) before place)

-- neither goes on after the other's end
not_longer : (entries : List EntryParts) (choices : List Choice) (one other : List Placed) → IsOrder entries choices one → IsOrder entries choices other → length one < length other → ⊥
not_longer entries choices one other first second shorter =
    let n : ℕ = length one in
    let d : Placed = record { at = 0; gain = 0 } in
    let test : ℕ = (get_or other n d).at in
    let before : take n other ≡ one = sym (same_front entries choices one other first second n (omega arith) (omega arith)) ∙ take_all n one (omega arith) in
    let waits : is_waiting choices one test ≡ true = subst (λ front. is_waiting choices front test ≡ true) before (second.each n d shorter).waits in
    let parts = and_parts (not (is_placed one test)) (is_selected_at choices test) waits in
    both_ways (is_placed one test) (not-true (is_placed one test) parts.0) (first.all test parts.1)

pub determined : OrderIsDetermined
determined entries choices one other first second = at (cases_order (length one) (length other))
  where
    at : (length one ≡ length other) ⊎ ((length one < length other) ⊎ (length other < length one)) → one ≡ other
    at (inl long) = sym (take_all (length one) one (omega arith)) ∙ same_front entries choices one other first second (length one) (omega arith) (omega arith) ∙ take_all (length one) other (omega arith)
    at (inr (inl shorter)) = absurd (not_longer entries choices one other first second shorter)
    at (inr (inr longer)) = absurd (not_longer entries choices other one second first longer)
