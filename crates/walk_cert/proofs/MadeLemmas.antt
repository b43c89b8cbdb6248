-- The pairs of sorted tuples, each once.
use Rattle.std.proofs.Common.{◌≡◌, ◌<◌, ◌≤◌, ◌+◌, ◌↔◌, ℕ, zero, suc, true, false, eqb, ltb, List, [], ◌∷◌, ◌++◌, length, get_or, map, Option, Some, None, option_map, refl, sym, ap, subst, ◌∙◌, ◌⊎◌, inl, inr, arith}
use Rattle.std.specs.Prelude.{slice_get}
use Rattle.std.specs.List.Sorted.{IsPermutation, IsSorted}
use Rattle.std.specs.Ordering.{is_lt, nat_cmp, ordering_then}
use Rattle.std.proofs.lemmas.Bool.{cases_lt}
use Rattle.std.proofs.lemmas.Bool.Decides.{nat_tests}
use Rattle.std.proofs.lemmas.List.Sorted.{Contains-permutation}
use Rattle.std.proofs.lemmas.Option.{slice_get-map, slice_get_within, same_Some, get_or_from_slice_get}
use Rattle.flow_graph.proofs.LawsLists.{made_of}
use Rattle.dual_walk.specs.declared.fact.Fact.{Fact}
use Rattle.dual_walk.specs.Held as held
use Rattle.dual_walk.proofs.LawsLists.{get_left, get_push, get_last, contained, contains_at}
use Rattle.cert_text.specs.declared.pair.Pair.{Pair}
use Rattle.cert_text.specs.Certificates.{IsBefore, IsAfter, RiseAfter, Rise}
use Rattle.walk_cert.specs.Pairs.{HasPair}
use Rattle.walk_cert.specs.Made.{tuple_of, IsOfWalk}

abbrev pub pair_of_tuple : ℕ × ℕ → Pair
pair_of_tuple t = record { old = t.0; new = t.1 }

-- the numbers stand among tuples
pub record HasTuple (xs : List (ℕ × ℕ)) (n n' : ℕ) : Type 0 where
  pub place : ℕ
  pub stands : slice_get xs place ≡ Some (n, n')

abbrev pub last_of : Option Pair → List Pair → Option Pair
last_of last [] = last
last_of last (x ∷ more) = last_of (Some x) more

pub last_of-push : (last : Option Pair) (xs : List Pair) (x : Pair) → last_of last (xs ++ x ∷ []) ≡ Some x
last_of-push last [] x = refl
last_of-push last (y ∷ xs) x = last_of-push (Some y) xs x

pub rise-push : (last : Option Pair) (xs : List Pair) (x : Pair) → RiseAfter IsBefore last xs → IsAfter IsBefore (last_of last xs) x → RiseAfter IsBefore last (xs ++ x ∷ [])
rise-push last [] x rise after = (after, tt)
rise-push last (y ∷ xs) x rise after = (rise.0, rise-push (Some y) xs x rise.1 after)

-- the last stands in the list
last_in : (first : Pair) (xs : List Pair) (x : Pair) → last_of (Some first) xs ≡ Some x → HasPair (first ∷ xs) x.old x.new
last_in first [] x is = let same : first ≡ x = same_Some first x is in record { place = 0; pair = first; stands = refl; old_is = ap (λ (p : Pair). p.old) same; new_is = ap (λ (p : Pair). p.new) same }
last_in first (y ∷ xs) x is = let h = last_in y xs x is in record { place = suc h.place; pair = h.pair; stands = h.stands; old_is = h.old_is; new_is = h.new_is }

pub last_has : (xs : List Pair) (x : Pair) → last_of None xs ≡ Some x → HasPair xs x.old x.new
last_has [] x is = absurd cc
last_has (y ∷ xs) x is = last_in y xs x is

-- one more pair
pub has_left : (xs : List Pair) (x : Pair) (n n' : ℕ) → HasPair xs n n' → HasPair (xs ++ x ∷ []) n n'
has_left xs x n n' h = record { place = h.place; pair = h.pair; stands = get_left xs (x ∷ []) h.place h.pair h.stands; old_is = h.old_is; new_is = h.new_is }

pub has_last : (xs : List Pair) (x : Pair) → HasPair (xs ++ x ∷ []) x.old x.new
has_last xs x = record { place = length xs; pair = x; stands = get_last xs x; old_is = refl; new_is = refl }

pub has_cases : (xs : List Pair) (x : Pair) (n n' : ℕ) → HasPair (xs ++ x ∷ []) n n' → HasPair xs n n' ⊎ ((x.old ≡ n) × (x.new ≡ n'))
has_cases xs x n n' h = elim (get_push xs x h.place h.pair h.stands) [
  | inl before ↦ inl (record { place = h.place; pair = h.pair; stands = before; old_is = h.old_is; new_is = h.new_is })
  | inr last ↦ inr (ap (λ (p : Pair). p.old) (sym last.1) ∙ h.old_is, ap (λ (p : Pair). p.new) (sym last.1) ∙ h.new_is)
]

-- neither is less: they are the same
pub not_less : (a b c d : ℕ) → is_lt (ordering_then (nat_cmp a c) (nat_cmp b d)) ≡ false → ¬ IsBefore (record { old = a; new = b }) (record { old = c; new = d })
not_less a b c d h (inl less) = let t : ltb a c ≡ true = grind (arith, nat_tests) in cc (rw t at h)
not_less a b c d h (inr same) =
    let t : ltb a c ≡ false = let e = same.0 in grind (arith, nat_tests) in
    let u : eqb a c ≡ true = let e = same.0 in grind (arith, nat_tests) in
    let v : ltb b d ≡ true = let e = same.1 in grind (arith, nat_tests) in
    cc (rw (t, u, v) at h)

-- tuples of facts
pub of_facts : (facts : List Fact) (n n' : ℕ) → HasTuple (map tuple_of facts) n n' ↔ held.HasPair facts n n'
of_facts facts n n' = (
  λ h.
      let m = made_of tuple_of (slice_get facts h.place) (n, n') (sym (slice_get-map tuple_of facts h.place) ∙ h.stands) in
      record { place = h.place; fact = m.value; stands = m.is; old = ap (λ (t : ℕ × ℕ). t.0) m.gives; new = ap (λ (t : ℕ × ℕ). t.1) m.gives },
  λ h. record { place = h.place; stands = slice_get-map tuple_of facts h.place ∙ ap (option_map tuple_of) h.stands ∙ (λ i. Some (h.old i, h.new i)) },
)

tie : (a b : Pair) → ¬ IsBefore a b → ¬ IsBefore b a → a ≡ b
tie a b less more =
    let old : a.old ≡ b.old = elim (cases_lt a.old b.old) [
      | inl l ↦ absurd (less (inl l))
      | inr n ↦ elim (cases_lt b.old a.old) [ inl l ↦ absurd (more (inl l)) | inr m ↦ omega arith ]
    ] in
    let new : a.new ≡ b.new = elim (cases_lt a.new b.new) [
      | inl l ↦ absurd (less (inr (old, l)))
      | inr n ↦ elim (cases_lt b.new a.new) [ inl l ↦ absurd (more (inr (sym old, l))) | inr m ↦ omega arith ]
    ] in
    λ i. record { old = old i; new = new i }

-- the first k tuples are read
pub record Moment (xs : List (ℕ × ℕ)) (k : ℕ) (pairs : List Pair) (last : Option Pair) : Type 0 where
  pub rise : Rise pairs
  pub is_last : last ≡ last_of None pairs
  pub none : k ≡ 0 → last ≡ None
  pub at : (j : ℕ) (t : ℕ × ℕ) → j + 1 ≡ k → slice_get xs j ≡ Some t → last ≡ Some (pair_of_tuple t)
  pub sound : (n n' : ℕ) → HasPair pairs n n' → HasTuple xs n n'
  pub complete : (j n n' : ℕ) → j < k → slice_get xs j ≡ Some (n, n') → HasPair pairs n n'

pub moment_none : (xs : List (ℕ × ℕ)) → Moment xs 0 [] None
moment_none xs = record {
  rise = tt;
  is_last = refl;
  none = λ z. refl;
  at = λ j t is stands. absurd (omega arith);
  sound = λ n n' h. absurd (let e = h.stands in cc);
  complete = λ j n n' less stands. absurd (omega arith);
}

-- what is known of the tuple that is read
here_at : (xs : List (ℕ × ℕ)) (k j : ℕ) (t u : ℕ × ℕ) → slice_get xs k ≡ Some u → j + 1 ≡ k + 1 → slice_get xs j ≡ Some t → u ≡ t
here_at xs k j t u here is stands = let same : j ≡ k = omega arith in same_Some u t (sym here ∙ ap (slice_get xs) (sym same) ∙ stands)

pub moment_push : (xs : List (ℕ × ℕ)) (k : ℕ) (pairs : List Pair) (last : Option Pair) (u : ℕ × ℕ) → Moment xs k pairs last → slice_get xs k ≡ Some u → IsAfter IsBefore last (pair_of_tuple u) → Moment xs (k + 1) (pairs ++ pair_of_tuple u ∷ []) (Some (pair_of_tuple u))
moment_push xs k pairs last u m here after = record {
  rise = rise-push None pairs (pair_of_tuple u) m.rise (subst (λ l. IsAfter IsBefore l (pair_of_tuple u)) m.is_last after);
  is_last = sym (last_of-push None pairs (pair_of_tuple u));
  none = λ z. absurd (omega arith);
  at = λ j t is stands. ap (λ v. Some (pair_of_tuple v)) (here_at xs k j t u here is stands);
  sound = λ n n' h. elim (has_cases pairs (pair_of_tuple u) n n' h) [
    | inl before ↦ m.sound n n' before
    | inr new ↦ record { place = k; stands = here ∙ (λ i. Some (new.0 i, new.1 i)) }
  ];
  complete = λ j n n' less stands. elim (cases_lt j k) [
    | inl before ↦ has_left pairs (pair_of_tuple u) n n' (m.complete j n n' before stands)
    | inr not_before ↦
        let is : j + 1 ≡ k + 1 = omega arith in
        let same : u ≡ (n, n') = here_at xs k j (n, n') u here is stands in
        subst (λ v. HasPair (pairs ++ pair_of_tuple u ∷ []) v.0 v.1) same (has_last pairs (pair_of_tuple u))
  ];
}

pub moment_skip : (xs : List (ℕ × ℕ)) (k : ℕ) (pairs : List Pair) (last : Option Pair) (u : ℕ × ℕ) → ((j : ℕ) (t : ℕ × ℕ) → j + 1 ≡ k → slice_get xs j ≡ Some t → ¬ IsBefore (pair_of_tuple u) (pair_of_tuple t)) → Moment xs k pairs last → slice_get xs k ≡ Some u
    → ((j : ℕ) → j < k → (t : ℕ × ℕ) × (slice_get xs j ≡ Some t)) → ¬ IsAfter IsBefore last (pair_of_tuple u) → Moment xs (k + 1) pairs (Some (pair_of_tuple u))
moment_skip xs zero pairs last u sorted m here earlier before = absurd (before (subst (λ l. IsAfter IsBefore l (pair_of_tuple u)) (sym (m.none refl)) tt))
moment_skip xs (suc i) pairs last u sorted m here earlier before =
    let t = earlier i (omega arith) in
    let next : i + 1 ≡ suc i = omega arith in
    let was : last ≡ Some (pair_of_tuple t.0) = m.at i t.0 next t.1 in
    let same : pair_of_tuple t.0 ≡ pair_of_tuple u = tie (pair_of_tuple t.0) (pair_of_tuple u) (λ b. before (subst (λ l. IsAfter IsBefore l (pair_of_tuple u)) (sym was) b)) (sorted i t.0 next t.1) in
    let is : last ≡ Some (pair_of_tuple u) = was ∙ ap Some same in
    record {
      rise = m.rise;
      is_last = sym is ∙ m.is_last;
      none = λ z. absurd (omega arith);
      at = λ j v e stands. ap (λ w. Some (pair_of_tuple w)) (here_at xs (suc i) j v u here e stands);
      sound = m.sound;
      complete = λ j n n' less stands. elim (cases_lt j (suc i)) [
        | inl sooner ↦ m.complete j n n' sooner stands
        | inr not_sooner ↦
            let e : j + 1 ≡ suc i + 1 = omega arith in
            let one : u ≡ (n, n') = here_at xs (suc i) j (n, n') u here e stands in
            subst (λ v. HasPair pairs v.0 v.1) one (last_has pairs (pair_of_tuple u) (sym m.is_last ∙ is))
      ];
    }

pub moment_all : (facts : List Fact) (xs : List (ℕ × ℕ)) (k : ℕ) (pairs : List Pair) (last : Option Pair) → Moment xs k pairs last → length xs ≤ k → ((n n' : ℕ) → HasTuple xs n n' ↔ HasTuple (map tuple_of facts) n n') → IsOfWalk facts pairs
moment_all facts xs k pairs last m all same = record {
  rise = m.rise;
  each = λ n n'. (
    λ h. (of_facts facts n n').0 ((same n n').0 (m.sound n n' h)),
    λ h. let t = (same n n').1 ((of_facts facts n n').1 h) in m.complete t.place n n' (let within : t.place < length xs = slice_get_within xs t.place (n, n') t.stands in omega arith) t.stands,
  );
}

-- the same tuples in another order
pub tuples_moved : (xs ys : List (ℕ × ℕ)) → IsPermutation xs ys → (n n' : ℕ) → HasTuple xs n n' → HasTuple ys n n'
tuples_moved xs ys moved n n' h = let at = contained ys (n, n') (Contains-permutation xs ys (n, n') moved (contains_at xs h.place (n, n') h.stands)) in record { place = at.0; stands = at.1 }

-- of sorted tuples none is before the one that stands before it
pub sorted_pairs : (xs : List (ℕ × ℕ)) → IsSorted (λ x y. ordering_then (nat_cmp x.0 y.0) (nat_cmp x.1 y.1)) xs → (k : ℕ) (u : ℕ × ℕ) → slice_get xs k ≡ Some u
    → (j : ℕ) (t : ℕ × ℕ) → j + 1 ≡ k → slice_get xs j ≡ Some t → ¬ IsBefore (pair_of_tuple u) (pair_of_tuple t)
sorted_pairs xs sorted k u here j t next there =
    let within : k < length xs = slice_get_within xs k u here in
    let up = sorted j (0, 0) (omega arith) (omega arith) in
    let one : get_or xs (j + 1) (0, 0) ≡ u = ap (λ n. get_or xs n (0, 0)) next ∙ get_or_from_slice_get xs k u (0, 0) here in
    let two : get_or xs j (0, 0) ≡ t = get_or_from_slice_get xs j t (0, 0) there in
    not_less u.0 u.1 t.0 t.1 (rw (one, two) at up)
