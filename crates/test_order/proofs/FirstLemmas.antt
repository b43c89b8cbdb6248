-- The place that goes first.
use Rattle.std.proofs.Common.{◌≡◌, ◌<◌, ◌≤◌, ◌+◌, ◌*◌, ◌/◌, ◌%◌, ℕ, zero, suc, min, List, [], ◌∷◌, ◌++◌, length, get_or, take, drop, map, refl, sym, ap, ◌∙◌, subst, arith}
use Rattle.std.specs.Fork.{slice_chunk}
use Rattle.std.proofs.Math.Nat.{div-add-mod, mul_comm, add-mul, div-lt_iff_lt-mul}
use Rattle.std.proofs.lemmas.List.{take-map, drop-map, map_more, get_or-take, get_or-drop, length-take, length-drop, length-map}
use Rattle.std.proofs.lemmas.List.Elements.{All-push, Contains-append_left, Contains-push}
use Rattle.test_order.specs.declared.placed.Placed.{Placed}
use Rattle.test_order.specs.Orders.{IsNotBehind}
use Rattle.test_order.specs.Counts.{IsFirstOf}

-- a place that isn't behind a second one isn't behind what the second isn't behind
pub not_behind_both : (a b : Placed) (gain other : ℕ) → IsNotBehind a b.gain b.at → IsNotBehind b gain other → IsNotBehind a gain other
not_behind_both a b gain other first second = (omega arith, λ same. omega (arith, first.1, second.1))

-- one place alone
pub first_of_one : (place : Placed) → IsFirstOf (place ∷ []) place
first_of_one place = record {
  among = (0, omega arith, refl);
  greatest = All-push (λ (other : Placed). IsNotBehind place other.gain other.at) [] place (λ k d none. absurd (omega arith)) (omega arith, λ same. omega arith);
}

-- one more place, which is behind or isn't
pub first_keeps : (places : List Placed) (first next : Placed) → IsFirstOf places first → IsNotBehind first next.gain next.at → IsFirstOf (places ++ next ∷ []) first
first_keeps places first next held ahead = record {
  among = Contains-append_left places (next ∷ []) first held.among;
  greatest = All-push (λ (other : Placed). IsNotBehind first other.gain other.at) places next held.greatest ahead;
}

pub first_takes : (places : List Placed) (first next : Placed) → IsFirstOf places first → IsNotBehind next first.gain first.at → IsFirstOf (places ++ next ∷ []) next
first_takes places first next held ahead = record {
  among = Contains-push places next;
  greatest = All-push (λ (other : Placed). IsNotBehind next other.gain other.at) places next
      (λ k d below. not_behind_both next first (get_or places k d).gain (get_or places k d).at ahead (held.greatest k d below)) (omega arith, λ same. omega arith);
}

-- the places of one more test
pub tests_more : (place : ℕ → Placed) (tests : List ℕ) (i : ℕ) (next : Placed) → i < length tests → next ≡ place (get_or tests i 0) → map place (take (i + 1) tests) ≡ map place (take i tests) ++ next ∷ []
tests_more place tests i next below is = map_more place tests i 0 below ∙ ap (λ one. map place (take i tests) ++ one ∷ []) (sym is)

-- ---- from chunks to the whole list

-- the last chunk may be shorter
last_chunk : (left size : ℕ) → left < size → left ≤ min 1 left * size
last_chunk zero size short = omega arith
last_chunk (suc left) size short = let one : min 1 (suc left) ≡ 1 = omega arith in rw one (omega arith)

-- so many chunks hold all
pub enough_chunks : (all size chunks : ℕ) → 0 < size → chunks ≡ all / size + min 1 (all % size) → all ≤ chunks * size
enough_chunks all size chunks some is =
    let parts : size * (all / size) + all % size ≡ all = div-add-mod all size in
    let rest : all % size ≤ min 1 (all % size) * size = last_chunk (all % size) size (omega arith) in
    let sum : chunks * size ≡ all / size * size + min 1 (all % size) * size = ap (λ n. n * size) is ∙ add-mul (all / size) (min 1 (all % size)) size in
    omega (arith, parts, rest, sum, mul_comm size (all / size))

-- chunk n of a list has these elements
in_chunk : (places : List Placed) (size n k : ℕ) (d : Placed) → k < length (slice_chunk places size n) → (k < size) × (n * size + k < length places) × (get_or (slice_chunk places size n) k d ≡ get_or places (n * size + k) d)
in_chunk places size n k d below =
    let lengths = length-take size (drop (n * size) places) in
    let rest = length-drop (n * size) places in
    let short : k < size = omega (arith, lengths, below) in
    (short, omega (arith, lengths, rest, below), get_or-take size (drop (n * size) places) k d short ∙ get_or-drop (n * size) places k d)

-- the place is not behind an element, which is in some chunk
first_of_each : (places : List Placed) (size : ℕ) (parts : List Placed) (first : Placed) → 0 < size → length places ≤ length parts * size
    → ((n : ℕ) (d : Placed) → n < length parts → IsFirstOf (slice_chunk places size n) (get_or parts n d)) → IsFirstOf parts first
    → (k : ℕ) (d : Placed) → k < length places → IsNotBehind first (get_or places k d).gain (get_or places k d).at
first_of_each places size parts first some enough each held k d below =
    let n : ℕ = k / size in
    let j : ℕ = k % size in
    let whole : n * size + j ≡ k = omega (arith, div-add-mod k size, mul_comm n size) in
    let inside : n < length parts = (div-lt_iff_lt-mul some).1 (omega (arith, below, enough)) in
    let short : j < size = omega arith in
    let part = each n d inside in
    let within : j < length (slice_chunk places size n) = omega (arith, length-take size (drop (n * size) places), length-drop (n * size) places, whole) in
    let at = in_chunk places size n j d within in
    let there : get_or (slice_chunk places size n) j d ≡ get_or places k d = at.2 ∙ ap (λ i. get_or places i d) whole in
    not_behind_both first (get_or parts n d) (get_or places k d).gain (get_or places k d).at (held.greatest n d inside)
    (subst (λ (place : Placed). IsNotBehind (get_or parts n d) place.gain place.at) there (part.greatest j d within))

-- the first of each chunk, and of these the first: the first of all
pub first_of_chunks : (places : List Placed) (size : ℕ) (parts : List Placed) (first : Placed) → 0 < size → length places ≤ length parts * size
    → ((n : ℕ) (d : Placed) → n < length parts → IsFirstOf (slice_chunk places size n) (get_or parts n d)) → IsFirstOf parts first → IsFirstOf places first
first_of_chunks places size parts first some enough each held =
    let n = held.among.0 in
    let part : IsFirstOf (slice_chunk places size n) first = subst (IsFirstOf (slice_chunk places size n)) held.among.2 (each n first held.among.1) in
    let at = in_chunk places size n part.among.0 first part.among.1 in
    record {
      among = (n * size + part.among.0, at.1, sym at.2 ∙ part.among.2);
      greatest = λ k d below. first_of_each places size parts first some enough each held k d below;
    }

-- the first of each chunk of tests, and of these the first: the first of all
pub first_of_test_chunks : (place : ℕ → Placed) (tests : List ℕ) (size chunks : ℕ) (parts told : List Placed) (first : Placed) → 0 < size → told ≡ parts → length told ≡ chunks
    → chunks ≡ length tests / size + min 1 (length tests % size)
    → ((n : ℕ) (d : Placed) → n < length parts → (chunk : List ℕ) × (chunk ≡ slice_chunk tests size n) × IsFirstOf (map place chunk) (get_or parts n d)) → IsFirstOf told first → IsFirstOf (map place tests) first
first_of_test_chunks place tests size chunks parts told first some is_told long count each held =
    let same : (n : ℕ) → map place (slice_chunk tests size n) ≡ slice_chunk (map place tests) size n =
    λ n. sym (take-map place size (drop (n * size) tests)) ∙ ap (take size) (sym (drop-map place (n * size) tests)) in
    let enough : length tests ≤ length parts * size = enough_chunks (length tests) size (length parts) some (ap length (sym is_told) ∙ long ∙ count) in
    first_of_chunks (map place tests) size parts first some (omega (arith, length-map tests place, enough))
    (λ n d below. let chunk = each n d below in subst (λ places. IsFirstOf places (get_or parts n d)) (ap (map place) chunk.1 ∙ same n) chunk.2) (subst (λ places. IsFirstOf places first) is_told held)
