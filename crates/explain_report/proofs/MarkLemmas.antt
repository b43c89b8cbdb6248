-- Marks of places: which are added, and when all that marked facts rest on is marked.
use Rattle.std.proofs.Common.{◌≡◌, ℕ, ◌+◌, ◌<◌, ◌≤◌, Bool, true, false, IsTrue, List, [], ◌∷◌, ◌++◌, length, get_or, set, replicate, take, Some, sym, ap, ◌∙◌, subst, ◌⊎◌, ◌↔◌, inl, inr, arith, get_or-set_same, get_or-set_other}
use Rattle.std.specs.Prelude.{slice_get, Contains, All}
use Rattle.std.proofs.lemmas.Bool.{cases_eq, cases_lt}
use Rattle.std.proofs.lemmas.List.{take_more}
use Rattle.std.proofs.lemmas.List.Elements.{Contains-get_or, Contains-append_left, Contains-append_right, Contains-append_cases}
use Rattle.std.proofs.lemmas.Option.{slice_get_within, slice_get-get_or, same_Some}
use Rattle.std.proofs.Math.ListN.{length-set}
use Rattle.edge_trace.specs.Rows.{has}
use Rattle.dual_walk.specs.declared.fact.Fact.{Fact}
use Rattle.dual_walk.specs.declared.fact.Why.{Why}
use Rattle.dual_walk.specs.declared.fact.Why.TheVariants.{Over}
use Rattle.explain_report.specs.Trims.{named_places, RestOnEarlier, Needed}
use Rattle.explain_report.specs.Trims.Needed.{is_wanted, is_named}
use Rattle.explain_report.specs.Marks.{AddsMarks, AreMarked, AreClosed}
use Rattle.explain_report.proofs.Places.{unset, one_place}

-- one place more, and one after another
pub adds_one : (marks : List Bool) (j : ℕ) → j < length marks → AddsMarks marks (set marks j true) (j ∷ [])
adds_one marks j l = record { long = length-set marks j true; each = λ i. (to i (cases_eq i j), from i (cases_eq i j)) }
  where
    to : (i : ℕ) → (i ≡ j) ⊎ (i ≡ j → ⊥) → IsTrue (has (set marks j true) i) → IsTrue (has marks i) ⊎ Contains (j ∷ []) i
    to i (inl e) h = inr (0, omega arith, sym e)
    to i (inr n) h = inl (sym (get_or-set_other marks j i true false n) ∙ h)

    from : (i : ℕ) → (i ≡ j) ⊎ (i ≡ j → ⊥) → IsTrue (has marks i) ⊎ Contains (j ∷ []) i → IsTrue (has (set marks j true) i)
    from i (inl e) h = ap (λ n. has (set marks j true) n) e ∙ get_or-set_same marks j true false l
    from i (inr n) (inl h) = get_or-set_other marks j i true false n ∙ h
    from i (inr n) (inr h) = absurd (n (one_place j i h))

pub adds_then : (a b d : List Bool) (xs ys : List ℕ) → AddsMarks a b xs → AddsMarks b d ys → AddsMarks a d (xs ++ ys)
adds_then a b d xs ys h k = record { long = k.long ∙ h.long; each = λ i. (λ m. to i ((k.each i).0 m), λ m. from i m) }
  where
    first : (i : ℕ) → IsTrue (has a i) ⊎ Contains xs i → IsTrue (has a i) ⊎ Contains (xs ++ ys) i
    first i (inl m) = inl m
    first i (inr m) = inr (Contains-append_left xs ys i m)

    to : (i : ℕ) → IsTrue (has b i) ⊎ Contains ys i → IsTrue (has a i) ⊎ Contains (xs ++ ys) i
    to i (inl m) = first i ((h.each i).0 m)
    to i (inr m) = inr (Contains-append_right xs ys i m)

    second : (i : ℕ) → Contains xs i ⊎ Contains ys i → IsTrue (has d i)
    second i (inl m) = (k.each i).1 (inl ((h.each i).1 (inr m)))
    second i (inr m) = (k.each i).1 (inr m)

    from : (i : ℕ) → IsTrue (has a i) ⊎ Contains (xs ++ ys) i → IsTrue (has d i)
    from i (inl m) = (k.each i).1 (inl ((h.each i).1 (inl m)))
    from i (inr m) = second i (Contains-append_cases xs ys i m)

-- the first places of a list, and the next one
pub adds_next : (a b : List Bool) (wanted : List ℕ) (i d : ℕ) → i < length wanted → get_or wanted i d < length b → AddsMarks a b (take i wanted)
    → AddsMarks a (set b (get_or wanted i d) true) (take (i + 1) wanted)
adds_next a b wanted i d within below h =
    let place = get_or wanted i d in
    subst (AddsMarks a (set b place true)) (sym (take_more wanted i d within)) (adds_then a b (set b place true) (take i wanted) (place ∷ []) h (adds_one b place below))

-- where nothing was marked, just these places are
pub adds_to_none : (n : ℕ) (marks : List Bool) (places : List ℕ) → AddsMarks (replicate n false) marks places → (i : ℕ) → IsTrue (has marks i) ↔ Contains places i
adds_to_none n marks places h i = (λ m. pick n i ((h.each i).0 m), λ m. (h.each i).1 (inr m))
  where
    pick : (n i : ℕ) → IsTrue (has (replicate n false) i) ⊎ Contains places i → Contains places i
    pick n i (inl m) = absurd (unset n i m)
    pick n i (inr m) = m

-- the needed facts from a place on are marked, and what they rest on
pub record MarkedFrom (facts : List Fact) (wanted : List ℕ) (marks : List Bool) (n : ℕ) : Type 0 where
  pub long : length marks ≡ length facts
  pub begun : (i : ℕ) → Contains wanted i → IsTrue (has marks i)
  pub named : (i j : ℕ) (c : Fact) → n ≤ i → slice_get facts i ≡ Some c → IsTrue (has marks i) → Contains (named_places c.why) j → IsTrue (has marks j)
  pub needed : (i : ℕ) → IsTrue (has marks i) → Needed facts wanted i

module _ (facts : List Fact) (wanted : List ℕ) where
  pub marked_none : (marks : List Bool) → length marks ≡ length facts → ((i : ℕ) → IsTrue (has marks i) ↔ Contains wanted i) → MarkedFrom facts wanted marks (length facts)
  marked_none marks long is = record {
    long = long;
    begun = λ i h. (is i).1 h;
    named = λ i j c l e m h. let w = slice_get_within facts i c e in absurd (omega arith);
    needed = λ i m. is_wanted i ((is i).0 m);
  }

  -- a place that isn't marked
  pub marked_over : (marks : List Bool) (n : ℕ) → has marks n ≡ false → MarkedFrom facts wanted marks (n + 1) → MarkedFrom facts wanted marks n
  marked_over marks n other h = record { long = h.long; begun = h.begun; named = named; needed = h.needed }
    where
      named : (i j : ℕ) (c : Fact) → n ≤ i → slice_get facts i ≡ Some c → IsTrue (has marks i) → Contains (named_places c.why) j → IsTrue (has marks j)
      named i j c l e m k = pick (cases_lt n i)
        where
          pick : (n < i) ⊎ (i ≤ n) → IsTrue (has marks j)
          pick (inl a) = h.named i j c (omega arith) e m k
          pick (inr a) = let same : i ≡ n = omega arith in let clash : true ≡ false = sym m ∙ ap (has marks) same ∙ other in cc

  -- a marked place, with what its reason names
  pub marked_more : (marks marks' : List Bool) (n : ℕ) (c : Fact) → RestOnEarlier facts → slice_get facts n ≡ Some c → has marks n ≡ true → AddsMarks marks marks' (named_places c.why)
      → MarkedFrom facts wanted marks (n + 1) → MarkedFrom facts wanted marks' n
  marked_more marks marks' n c rest stands marked adds h = record {
    long = adds.long ∙ h.long;
    begun = λ i k. (adds.each i).1 (inl (h.begun i k));
    named = named;
    needed = λ i m. needed i ((adds.each i).0 m);
  }
    where
      needed : (i : ℕ) → IsTrue (has marks i) ⊎ Contains (named_places c.why) i → Needed facts wanted i
      needed i (inl m) = h.needed i m
      needed i (inr k) = is_named n i c (h.needed n marked) stands k

      named : (i j : ℕ) (d : Fact) → n ≤ i → slice_get facts i ≡ Some d → IsTrue (has marks' i) → Contains (named_places d.why) j → IsTrue (has marks' j)
      named i j d l e m k = pick (cases_lt n i)
        where
          before : n < i → IsTrue (has marks i) ⊎ Contains (named_places c.why) i → IsTrue (has marks i)
          before a (inl b) = b
          before a (inr b) = let less = rest.earlier n i c stands b in absurd (omega arith)

          pick : (n < i) ⊎ (i ≤ n) → IsTrue (has marks' j)
          pick (inl a) = (adds.each j).1 (inl (h.named i j d (omega arith) e (before a ((adds.each i).0 m)) k))
          pick (inr a) =
              let same : i ≡ n = omega arith in
              let one : d ≡ c = same_Some d c (sym e ∙ ap (slice_get facts) same ∙ stands) in
              (adds.each j).1 (inr (subst (λ (f : Fact). Contains (named_places f.why) j) one k))

  pub marked_all : (marks : List Bool) → MarkedFrom facts wanted marks 0 → AreMarked facts wanted marks
  marked_all marks h = record { long = h.long; each = λ i. (λ m. h.needed i m, λ k. from i k) }
    where
      from : (i : ℕ) → Needed facts wanted i → IsTrue (has marks i)
      from i (is_wanted j k) = h.begun j k
      from i (is_named k j c n e m) = h.named k j c (omega arith) e (from k n) m

  -- marks of the needed facts are closed
  pub marked_closed : (marks : List Bool) → RestOnEarlier facts → AreMarked facts wanted marks → AreClosed facts marks
  marked_closed marks rest h = record {
    earlier = λ i j c e m k. rest.earlier i j c e k;
    marked = λ i j c e m k. (h.each j).1 (is_named i j c ((h.each i).0 m) e k);
  }

-- what the reason of a fact names are places of the list
pub rest_within : (facts : List Fact) (i n : ℕ) (d : Fact) → RestOnEarlier facts → i < length facts → length facts ≡ n → All (λ j. j < n) (named_places (get_or facts i d).why)
rest_within facts i n d rest within long k e less =
    let named : Contains (named_places (get_or facts i d).why) (get_or (named_places (get_or facts i d).why) k e) = Contains-get_or (named_places (get_or facts i d).why) k e less in
    let before = rest.earlier i (get_or (named_places (get_or facts i d).why) k e) (get_or facts i d) (slice_get-get_or facts i d within) named in
    omega arith

-- both places that a reason names
pub adds_both : (marks : List Bool) (why : Why) (from back : ℕ) → why ≡ Over from back → All (λ j. j < length marks) (named_places why)
    → AddsMarks marks (set (set marks from true) back true) (named_places why)
adds_both marks why from back is within =
    let named : named_places why ≡ from ∷ back ∷ [] = ap named_places is in
    let each : All (λ j. j < length marks) (from ∷ back ∷ []) = subst (All (λ j. j < length marks)) named within in
    let front : from < length marks = each 0 0 (omega arith) in
    let behind : back < length (set marks from true) = omega (arith, each 1 0 (omega arith), length-set marks from true) in
    subst (AddsMarks marks (set (set marks from true) back true)) (sym named)
    (adds_then marks (set marks from true) (set (set marks from true) back true) (from ∷ []) (back ∷ []) (adds_one marks from front) (adds_one (set marks from true) back behind))
