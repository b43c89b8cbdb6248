-- Draws that go on from a state are those of the seed from a later place on.
use Rattle.std.proofs.Common.{◌≡◌, ℕ, zero, suc, ◌+◌, ◌*◌, ◌%◌, List, [], ◌∷◌, ◌++◌, sym, ap, ◌∙◌, arith, add-zero, add-suc, add-one}
use Rattle.std.proofs.lemmas.List.FromFn.{map-range_with_len_more}
use Rattle.dv_gen.specs.declared.functions.Function.{Function}
use Rattle.dv_gen.specs.Draws.{next_state, state_after, drawn}
use Rattle.dv_gen.specs.Functions.{numbers_of, functions_of}

pub state_after-add : (seed m n : ℕ) → state_after (state_after seed m) n ≡ state_after seed (m + n)
state_after-add seed m zero = ap (state_after seed) (sym (add-zero m))
state_after-add seed m (suc n) = ap next_state (state_after-add seed m n) ∙ sym (ap (state_after seed) (add-suc m n))

pub state_after-next : (seed m : ℕ) → next_state (state_after seed m) ≡ state_after seed (m + 1)
state_after-next seed m = sym (ap (state_after seed) (add-one m))

pub drawn-after : (seed m i most : ℕ) → drawn (state_after seed m) i most ≡ drawn seed (m + i) most
drawn-after seed m i most =
    let place : m + (i + 1) ≡ m + i + 1 = omega arith in
    ap (λ x. x % most) (state_after-add seed m (i + 1) ∙ ap (state_after seed) place)

-- the next draw
pub drawn-next : (seed m most : ℕ) → next_state (state_after seed m) % most ≡ drawn seed m most
drawn-next seed m most = ap (λ x. x % most) (state_after-next seed m)

-- the numbers of the next function
numbers_of-after : (seed i : ℕ) → numbers_of (state_after seed (3 * i)) 0 ≡ numbers_of seed i
numbers_of-after seed i =
    let bound = drawn-after seed (3 * i) 0 256 ∙ ap (λ k. drawn seed k 256) (add-zero (3 * i)) in
    let taken = drawn-after seed (3 * i) 1 16 in
    let added = drawn-after seed (3 * i) 2 16 in
    cc (bound, taken, added)

-- one more function
pub functions_of-more : (seed i : ℕ) (before after : List Function) (next : Function) (state : ℕ) → before ≡ functions_of seed i
    → state ≡ state_after seed (3 * i) → next ≡ numbers_of state 0 → after ≡ before ++ next ∷ [] → after ≡ functions_of seed (i + 1)
functions_of-more seed i before after next state so_far at is pushed =
    let last : next ≡ numbers_of seed i = is ∙ ap (λ x. numbers_of x 0) at ∙ numbers_of-after seed i in
    let more = map-range_with_len_more (numbers_of seed) 0 i i (omega arith) in
    pushed ∙ rw (so_far, last) (sym more)

pub three_more : (seed i before after : ℕ) → before ≡ state_after seed (3 * i) → after ≡ state_after before 3 → after ≡ state_after seed (3 * (i + 1))
three_more seed i before after at moved =
    let place : 3 * i + 3 ≡ 3 * (i + 1) = omega arith in
    moved ∙ ap (λ x. state_after x 3) at ∙ state_after-add seed (3 * i) 3 ∙ ap (state_after seed) place

pub one_more : (first k before after : ℕ) → before ≡ state_after first k → after ≡ next_state before → after ≡ state_after first (k + 1)
one_more first k before after at moved = moved ∙ ap next_state at ∙ state_after-next first k
