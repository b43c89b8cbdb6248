-- Parts of lists of facts: the marked places, and the facts there with renumbered reasons.
use Rattle.std.proofs.Common.{◌≡◌, ℕ, zero, suc, ◌+◌, ◌<◌, ◌≤◌, Bool, true, false, not, cond, IsTrue, List, [], ◌∷◌, ◌++◌, length, get_or, set, Some, refl, sym, ap, ◌∙◌, subst, subst₂, ◌⊎◌, inl, inr, arith}
use Rattle.std.specs.Prelude.{slice_get, slice_index, filter, Contains, All, AllPairs}
use Rattle.std.specs.List.{AllZip, range_with_len}
use Rattle.std.proofs.lemmas.Bool.{cases_lt}
use Rattle.std.proofs.lemmas.List.{map-id, append-nil}
use Rattle.std.proofs.lemmas.List.Elements.{Contains-get_or, Contains-push, Contains-append_left, All-filter, All-contains, filter_passes}
use Rattle.std.proofs.lemmas.List.Filters.{length-filter_both}
use Rattle.std.proofs.lemmas.List.FromFn.{length-range_with_len, get_or-range_with_len, filter_of_map_range_with_len_more}
use Rattle.std.proofs.lemmas.List.Kept.{AllPairs-filter}
use Rattle.std.proofs.lemmas.Option.{slice_get_within, slice_get-get_or, get_or_from_slice_get}
use Rattle.std.proofs.Math.ListN.{length-set}
use Rattle.edge_trace.specs.Rows.{has}
use Rattle.dual_walk.specs.declared.fact.Fact.{Fact}
use Rattle.dual_walk.specs.declared.fact.Why.{Why}
use Rattle.dual_walk.specs.declared.fact.Why.TheVariants.{Start, Step, Call, Over}
use Rattle.explain_report.specs.declared.part.Part.{Part}
use Rattle.explain_report.specs.Trims.{named_places, Needed, SameReason, IsMoved}
use Rattle.explain_report.specs.Trims.Needed.{is_wanted}
use Rattle.explain_report.specs.Marks.{AreMarked, AreClosed, marked_places}
use Rattle.explain_report.specs.Parts.{renumbered, IsPartAt, IsPartOf}
use Rattle.dual_walk.proofs.LawsLists.{contained, contains_at, get_left, get_push, get_set_same, get_set_other}
use Rattle.explain_report.proofs.Places.{zip_push, zip_weaker, zip_long}

-- ---- the marked places

module _ (marks : List Bool) where
  more : (n : ℕ) → marked_places marks (n + 1) ≡ marked_places marks n ++ cond (has marks n) (n ∷ []) []
  more n =
      let ids = λ (k : ℕ). sym (ap (filter (has marks)) (map-id (range_with_len 0 k))) in
      let next : 0 + n ≡ n = omega arith in
      ids (n + 1) ∙ filter_of_map_range_with_len_more (has marks) (λ k. k) 0 n n next
      ∙ ap (λ places. places ++ cond (has marks n) (n ∷ []) []) (sym (ids n))

  pub places_more : (n : ℕ) → has marks n ≡ true → marked_places marks (n + 1) ≡ marked_places marks n ++ n ∷ []
  places_more n marked = more n ∙ ap (λ b. marked_places marks n ++ cond b (n ∷ []) []) marked

  pub places_same : (n : ℕ) → has marks n ≡ false → marked_places marks (n + 1) ≡ marked_places marks n
  places_same n other = more n ∙ ap (λ b. marked_places marks n ++ cond b (n ∷ []) []) other ∙ append-nil (marked_places marks n)

  pub places_rise : (n : ℕ) → AllPairs (λ i j. i < j) (marked_places marks n)
  places_rise n = AllPairs-filter (λ i j. i < j) (has marks) (range_with_len 0 n) rising
    where
      rising : AllPairs (λ i j. i < j) (range_with_len 0 n)
      rising i j d less within =
          let long = length-range_with_len 0 n in
          let a = get_or-range_with_len 0 n i d (omega arith) in
          let b = get_or-range_with_len 0 n j d (omega arith) in
          omega arith

  -- they are below the bound, and marked
  pub places_below : (n i : ℕ) → Contains (marked_places marks n) i → i < n
  places_below n i h = All-contains (λ k. k < n) (marked_places marks n) i (All-filter (has marks) (λ k. k < n) (range_with_len 0 n) below) h
    where
      below : All (λ k. k < n) (range_with_len 0 n)
      below k d l =
          let long = length-range_with_len 0 n in
          let a = get_or-range_with_len 0 n k d (omega arith) in
          omega arith

  pub places_marked : (n i : ℕ) → Contains (marked_places marks n) i → IsTrue (has marks i)
  places_marked n i h = All-contains (λ k. has marks k ≡ true) (marked_places marks n) i (filter_passes (has marks) (range_with_len 0 n)) h

  -- and all such
  pub places_all : (n i : ℕ) → i < n → IsTrue (has marks i) → Contains (marked_places marks n) i
  places_all zero i l m = absurd (omega arith)
  places_all (suc n) i l m = pick (cases_lt i n) (λ less. places_all n i less m)
    where
      one : n + 1 ≡ suc n
      one = omega arith

      pick : (i < n) ⊎ (n ≤ i) → (i < n → Contains (marked_places marks n) i) → Contains (marked_places marks (suc n)) i
      pick (inl less) before =
          subst (λ k. Contains (marked_places marks k) i) one
          (subst (λ places. Contains places i) (sym (more n)) (Contains-append_left (marked_places marks n) (cond (has marks n) (n ∷ []) []) i (before less)))
      pick (inr least) before =
          let e : n ≡ i = omega arith in
          subst (λ k. Contains (marked_places marks k) i) one
          (subst (λ places. Contains places i) (sym (places_more n (ap (has marks) e ∙ m)))
          (subst (λ k. Contains (marked_places marks n ++ n ∷ []) k) e (Contains-push (marked_places marks n) n)))

-- ---- renumbered reasons

-- the new place of each place that a reason names stands in a table
pub same_reason : (places table : List ℕ) (why : Why) → ((j : ℕ) → Contains (named_places why) j → slice_get places (slice_index table j) ≡ Some j) → SameReason places why (renumbered table why)
same_reason places table Start at = tt
same_reason places table (Step j e) at = (at j (0, omega arith, refl), refl)
same_reason places table (Call j) at = at j (0, omega arith, refl)
same_reason places table (Over j m) at = (at j (0, omega arith, refl), at m (1, omega arith, refl))

-- one more place
same_reason_more : (places : List ℕ) (n : ℕ) (why other : Why) → SameReason places why other → SameReason (places ++ n ∷ []) why other
same_reason_more places n Start Start h = tt
same_reason_more places n (Step j e) (Step k d) h = (get_left places (n ∷ []) k j h.0, h.1)
same_reason_more places n (Call j) (Call k) h = get_left places (n ∷ []) k j h
same_reason_more places n (Over j m) (Over k l) h = (get_left places (n ∷ []) k j h.0, get_left places (n ∷ []) l m h.1)
same_reason_more places n why other h = absurd h

moved_more : (facts : List Fact) (places : List ℕ) (n place : ℕ) (c : Fact) → IsMoved facts places place c → IsMoved facts (places ++ n ∷ []) place c
moved_more facts places n place c h = record {
  fact = h.fact;
  stands = h.stands;
  function = h.function;
  old = h.old;
  new = h.new;
  why = same_reason_more places n h.fact.why c.why h.why;
}

-- ---- a part, place by place

module _ (facts : List Fact) (marks : List Bool) where
  -- the facts so far, and the table
  pub record IsPartTo (n : ℕ) (kept : List Fact) (table : List ℕ) : Type 0 where
    pub moved : AllZip (IsMoved facts (marked_places marks n)) (marked_places marks n) kept
    pub long : length table ≡ length facts
    pub entered : (k place : ℕ) → slice_get (marked_places marks n) k ≡ Some place → slice_get table place ≡ Some k

  pub part_same : (n : ℕ) (kept : List Fact) (table : List ℕ) → has marks n ≡ false → IsPartTo n kept table → IsPartTo (n + 1) kept table
  part_same n kept table other h =
      let same = sym (places_same marks n other) in
      record {
        moved = subst (λ places. AllZip (IsMoved facts places) places kept) same h.moved;
        long = h.long;
        entered = subst (λ places. (k place : ℕ) → slice_get places k ≡ Some place → slice_get table place ≡ Some k) same h.entered;
      }

  -- one more fact, whose reason names facts of the part
  pub part_more : AreClosed facts marks → (n : ℕ) (kept : List Fact) (table : List ℕ) (c : Fact) → has marks n ≡ true → slice_get facts n ≡ Some c → IsPartTo n kept table
      → IsPartTo (n + 1) (kept ++ record c { why = renumbered table c.why } ∷ []) (set table n (length kept))
  part_more closed n kept table c marked stands h =
      let more_places = marked_places marks n ++ n ∷ [] in
      let same = sym (places_more marks n marked) in
      record {
        moved = subst (λ places. AllZip (IsMoved facts places) places (kept ++ record c { why = renumbered table c.why } ∷ [])) same
            (zip_push (IsMoved facts more_places) (marked_places marks n) kept n (record c { why = renumbered table c.why })
            (zip_weaker (IsMoved facts (marked_places marks n)) (IsMoved facts more_places) (moved_more facts (marked_places marks n) n) (marked_places marks n) kept h.moved)
            (record { fact = c; stands = stands; function = refl; old = refl; new = refl; why = same_reason more_places table c.why named }));
        long = length-set table n (length kept) ∙ h.long;
        entered = subst (λ places. (k place : ℕ) → slice_get places k ≡ Some place → slice_get (set table n (length kept)) place ≡ Some k) same
            (λ k place e. entered k place (get_push (marked_places marks n) n k place e));
      }
    where
      named : (j : ℕ) → Contains (named_places c.why) j → slice_get (marked_places marks n ++ n ∷ []) (slice_index table j) ≡ Some j
      named j k =
          let at = contained (marked_places marks n) j (places_all marks n j (closed.earlier n j c stands marked k) (closed.marked n j c stands marked k)) in
          let index : slice_index table j ≡ at.0 = get_or_from_slice_get table j at.0 0 (h.entered at.0 j at.1) in
          ap (slice_get (marked_places marks n ++ n ∷ [])) index ∙ get_left (marked_places marks n) (n ∷ []) at.0 j at.1

      entered : (k place : ℕ) → (slice_get (marked_places marks n) k ≡ Some place) ⊎ ((k ≡ length (marked_places marks n)) × (place ≡ n)) → slice_get (set table n (length kept)) place ≡ Some k
      entered k place (inl e) =
          let below = places_below marks n place (contains_at (marked_places marks n) k place e) in
          get_set_other table n place (length kept) (λ same. omega arith) ∙ h.entered k place e
      entered k place (inr e) =
          let long = slice_get_within facts n c stands in
          let within : n < length table = omega (arith, h.long) in
          let last : length kept ≡ k = sym (zip_long (IsMoved facts (marked_places marks n)) (marked_places marks n) kept h.moved) ∙ sym e.0 in
          ap (slice_get (set table n (length kept))) e.1 ∙ get_set_same table n (length kept) within ∙ ap Some last

  -- the same, by what the calls of a turn give
  pub part_next : AreClosed facts marks → (n : ℕ) (kept kept' : List Fact) (table table' seen : List ℕ) (c moved : Fact) (at : ℕ) → has marks n ≡ true → slice_get facts n ≡ Some c → IsPartTo n kept table
      → seen ≡ table → moved ≡ record c { why = renumbered seen c.why } → kept' ≡ kept ++ moved ∷ [] → at ≡ length kept → table' ≡ set table n at → IsPartTo (n + 1) kept' table'
  part_next closed n kept kept' table table' seen c moved at marked stands h same_table is more last entered =
      let one : moved ≡ record c { why = renumbered table c.why } = is ∙ ap (λ l. record c { why = renumbered l c.why }) same_table in
      subst₂ (IsPartTo (n + 1)) (sym (more ∙ ap (λ d. kept ++ d ∷ []) one)) (sym (entered ∙ ap (set table n) last)) (part_more closed n kept table c marked stands h)

-- a number that is marked is a place
pub marked_within : (marks : List Bool) (i : ℕ) → IsTrue (has marks i) → i < length marks
marked_within [] i m = absurd cc
marked_within (b ∷ marks) zero m = omega arith
marked_within (b ∷ marks) (suc i) m = let l = marked_within marks i m in omega arith

-- the part of the marked facts is that of the needed ones
pub part_whole : (facts : List Fact) (wanted : List ℕ) (marks : List Bool) (part : Part) → AreMarked facts wanted marks → IsPartAt facts (marked_places marks (length facts)) part → IsPartOf facts wanted part
part_whole facts wanted marks part are h = record {
  trimmed = record { places = marked_places marks (length facts); rising = places_rise marks (length facts); needed = λ i. ((λ k. (are.each i).0 (places_marked marks (length facts) i k)), (λ k. among i k)); moved = h.moved };
  long = h.long;
  table = λ place k. entered place (contained (marked_places marks (length facts)) place (among place (is_wanted place k)));
}
  where
    among : (i : ℕ) → Needed facts wanted i → Contains (marked_places marks (length facts)) i
    among i k =
        let m = (are.each i).1 k in
        let within = marked_within marks i m in
        places_all marks (length facts) i (omega (arith, are.long)) m

    entered : (place : ℕ) → (k : ℕ) × (slice_get (marked_places marks (length facts)) k ≡ Some place) → slice_get (marked_places marks (length facts)) (slice_index part.table.items place) ≡ Some place
    entered place at =
        let index : slice_index part.table.items place ≡ at.0 = get_or_from_slice_get part.table.items place at.0 0 (h.table at.0 place at.1) in
        ap (slice_get (marked_places marks (length facts))) index ∙ at.1

-- as many facts as there are marked places
pub part_few : (facts : List Fact) (marks : List Bool) (n : ℕ) (kept : List Fact) (table : List ℕ) → IsPartTo facts marks n kept table → length kept ≤ n
part_few facts marks n kept table h =
    let long = zip_long (IsMoved facts (marked_places marks n)) (marked_places marks n) kept h.moved in
    let both = length-filter_both (has marks) (λ i. not (has marks i)) (λ i. refl) (range_with_len 0 n) in
    let all = length-range_with_len 0 n in
    omega arith

-- what the reason of a marked fact names are places of the list
pub closed_within : (facts : List Fact) (marks : List Bool) (i n : ℕ) (d : Fact) → AreClosed facts marks → has marks i ≡ true → i < length facts → length facts ≡ n
    → All (λ j. j < n) (named_places (get_or facts i d).why)
closed_within facts marks i n d closed marked within long k e less =
    let named : Contains (named_places (get_or facts i d).why) (get_or (named_places (get_or facts i d).why) k e) = Contains-get_or (named_places (get_or facts i d).why) k e less in
    let before = closed.earlier i (get_or (named_places (get_or facts i d).why) k e) (get_or facts i d) (slice_get-get_or facts i d within) marked named in
    omega arith
