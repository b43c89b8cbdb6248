-- The line of a place, by a search among the beginnings of lines.
use Rattle.std.proofs.Common.{◌≡◌, ℕ, zero, suc, ◌+◌, ◌-◌, ◌<◌, ◌≤◌, inl, inr, true, false, List, ◌∷◌, ◌++◌, length, take, drop, get_or, min, sym, ap, ap₂, subst, ◌∙◌, arith, length-append, leb, leb-true, le-leb, leb-false}
use Rattle.std.specs.List.Sorted.{IsPartitionedBy, IsPartitionPoint}
use Rattle.std.proofs.Math.Seq.{get_or-append_right}
use Rattle.std.proofs.lemmas.Bool.{cases_lt}
use Rattle.std.proofs.lemmas.List.{take-append-drop, get_or_append_left, length-take}
use Rattle.csub_lex.specs.Place.{line_of, column_of, tail_len}
use Rattle.source_place.specs.Lines.{Lines, IsTableOf, behind_newlines, line_begins}
use Rattle.source_place.specs.Places.{counted}
use Rattle.source_place.proofs.Beginnings.{behind-append, behind_within, length-behind, ends}

-- numbers up to a place, and then numbers behind it
record IsCut (place : ℕ) (front back : List ℕ) : Type 0 where
  pub low : (k d : ℕ) → k < length front → get_or front k d ≤ place
  pub high : (k d : ℕ) → k < length back → place < get_or back k d

-- a number up to the place stands in front
in_front : (place : ℕ) (front back : List ℕ) → IsCut place front back → (k d : ℕ) → k < length (front ++ back) → get_or (front ++ back) k d ≤ place → k < length front
in_front place front back cut k d within h = elim (cases_lt k (length front)) [
  | inl less ↦ less
  | inr more ↦ absurd (omega (arith, get_or-append_right front back k d more, cut.high (k - length front) d (omega (arith, length-append front back))))
]

up_to_place : (place : ℕ) (front back : List ℕ) → IsCut place front back → (k d : ℕ) → k < length front → get_or (front ++ back) k d ≤ place
up_to_place place front back cut k d less = omega (arith, get_or_append_left front back d k less, cut.low k d less)

partitioned : (place : ℕ) (front back : List ℕ) → IsCut place front back → IsPartitionedBy (λ y. leb y place) (front ++ back)
partitioned place front back cut i j d le within h =
    le-leb _ _ (up_to_place place front back cut i d (omega (arith, in_front place front back cut j d within (leb-true _ _ h))))

-- where the two parts meet
point_is : (place : ℕ) (front back : List ℕ) (i : ℕ) → IsCut place front back → i ≤ length (front ++ back)
    → IsPartitionPoint (λ y. leb y place ≡ true) (λ y. leb y place ≡ false) (front ++ back) i → i ≡ length front
point_is place front back i cut within point = elim (cases_lt i (length front)) [
  | inl less ↦ absurd (omega (arith, length-append front back, up_to_place place front back cut i 0 less, leb-false _ _ (point.1 i 0 (omega arith) (omega (arith, length-append front back)))))
  | inr more ↦ elim (cases_lt (length front) i) [
    | inl less ↦ absurd (omega (arith, in_front place front back cut (length front) 0 (omega arith) (leb-true _ _ (point.0 (length front) 0 (omega arith) less))))
    | inr same ↦ omega arith
  ]
]

-- ---- the lines that begin at a place or before it

module _ (source : List ℕ) (place : ℕ) (inside : place ≤ length source) where
  abbrev front : List ℕ
  front = line_begins (take place source)

  abbrev back : List ℕ
  back = behind_newlines place (drop place source)

  length_before : length (take place source) ≡ place
  length_before = omega (arith, length-take place source)

  begins_cut : line_begins source ≡ front ++ back
  begins_cut = ap line_begins (sym (take-append-drop place source)) ∙ ap (λ more. 0 ∷ more) (behind-append 0 (take place source) (drop place source)
      ∙ ap (λ n. behind_newlines 0 (take place source) ++ behind_newlines n (drop place source)) (omega (arith, length_before)))

  front_low : (k d : ℕ) → k < length front → get_or front k d ≤ place
  front_low zero d h = omega arith
  front_low (suc k) d h = omega (arith, (behind_within 0 (take place source) k d (omega arith)).1, length_before)

  is_cut : IsCut place front back
  is_cut = record { low = front_low; high = λ k d h. (behind_within place (drop place source) k d h).0 }

  lines_before : length front ≡ line_of source place
  lines_before = omega (arith, length-behind 0 (take place source))

  pub begins_partitioned : IsPartitionedBy (λ y. leb y place) (line_begins source)
  begins_partitioned = subst (IsPartitionedBy (λ y. leb y place)) (sym begins_cut) (partitioned place front back is_cut)

  -- a place with the beginnings up to it before it is the number of its line
  pub line_is : (i : ℕ) → i ≤ length (line_begins source) → IsPartitionPoint (λ y. leb y place ≡ true) (λ y. leb y place ≡ false) (line_begins source) i → i ≡ line_of source place
  line_is i within point =
      point_is place front back i is_cut (subst (λ (begins : List ℕ). i ≤ length begins) begins_cut within)
      (subst (λ (begins : List ℕ). IsPartitionPoint (λ y. leb y place ≡ true) (λ y. leb y place ≡ false) begins i) begins_cut point) ∙ lines_before

  -- the line of a place begins at the last beginning up to it
  pub begin_is : (i d : ℕ) → i ≡ line_of source place → (i - 1 < length (line_begins source)) × (get_or (line_begins source) (i - 1) d + column_of source place ≡ place + 1)
  begin_is i d is =
      let cut : get_or (line_begins source) (i - 1) d ≡ get_or front (i - 1) d = ap (λ begins. get_or begins (i - 1) d) begins_cut ∙ get_or_append_left front back d (i - 1) (omega (arith, lines_before)) in
      let last : get_or front (i - 1) d + tail_len (take place source) ≡ length (take place source) = ap (λ n. get_or front (n - 1) d + tail_len (take place source)) (is ∙ sym lines_before) ∙ ends (take place source) d in
      (omega (arith, lines_before, ap length begins_cut, length-append front back), omega (arith, cut, last, length_before))

-- ---- a place by the table of its source

-- what the line of a place is known to begin with
pub record IsFound (source : List ℕ) (table : Lines) (at place line : ℕ) : Type 0 where
  pub within : line - 1 < length table.begins
  pub before : (begin d : ℕ) → begin ≡ get_or table.begins (line - 1) d → begin ≤ place
  pub is : (begin d : ℕ) → begin ≡ get_or table.begins (line - 1) d → record { line = line; column = place - begin + 1 } ≡ counted source (min at (length source))

pub found : (source : List ℕ) (table : Lines) (begins : List ℕ) (at place line : ℕ) → IsTableOf source table → begins ≡ table.begins → place ≡ min at table.end
    → ((source : List ℕ) → begins ≡ line_begins source → place ≤ length source → line ≡ line_of source place) → IsFound source table at place line
found source table begins at place line of same low told =
    let inside : place ≤ length source = omega (arith, of.end) in
    let numbered : line ≡ line_of source place = told source (same ∙ of.begins) inside in
    let column : (begin d : ℕ) → begin ≡ get_or table.begins (line - 1) d → begin + column_of source place ≡ place + 1 =
    λ begin d is. ap (λ n. n + column_of source place) (is ∙ ap (λ begins. get_or begins (line - 1) d) of.begins) ∙ (begin_is source place inside line d numbered).1 in
    record {
      within = subst (λ (begins : List ℕ). line - 1 < length begins) (sym of.begins) (begin_is source place inside line 0 numbered).0;
      before = λ begin d is. omega (arith, column begin d is);
      is = λ begin d is. ap₂ (λ l c. record { line = l; column = c }) numbered (omega (arith, column begin d is)) ∙ ap (counted source) (low ∙ ap (min at) of.end);
    }
