-- Facts without a pair twice have no more edges than the graphs have pairs of an edge and a point.
use Rattle.std.proofs.Common.{◌≡◌, ℕ, zero, suc, Bool, true, false, cond, eqb, eq-eqb, true≢false, ◌+◌, ◌*◌, ◌/◌, ◌<◌, ◌≤◌, List, [], ◌∷◌, ◌++◌, map, length, get_or, set, replicate, take, Some, Result, Ok, Err, refl, sym, ap, ap₂, ◌∙◌, subst, arith, length-append}
use Rattle.std.specs.Prelude.{slice_get, slice_index_or, sum_by, ⊤, OnOk, OnErr}
use Rattle.std.proofs.lemmas.Bool.{eqb-true}
use Rattle.std.proofs.lemmas.Nat.{div-mul-add, mul-add-lt, same_from_place}
use Rattle.std.proofs.lemmas.Option.{slice_get_within, get_or_from_slice_get}
use Rattle.std.proofs.lemmas.List.{take-append-le}
use Rattle.std.proofs.lemmas.List.Folds.{sum_by-replicate}
use Rattle.std.proofs.lemmas.List.Sums.{sum_by-cons, sum_by-set, sum_by_more, sum_by_more_le, sum_by-take-le}
use Rattle.flow_graph.specs.declared.node.GraphPoint.{GraphPoint}
use Rattle.flow_graph.specs.Graph.{Tables, point_count, edge_count, way_count, way_count_at}
use Rattle.dual_walk.specs.declared.fact.Fact.{Fact}
use Rattle.dual_walk.specs.Held.{Extends, IsBookOf}
use Rattle.dual_walk.specs.Rows.{count_all}
use Rattle.dual_walk.specs.Moments.{allowed}
use Rattle.dual_walk.proofs.LawsLists.{get_some}

-- the numbers of all lists, as one list changes
module _ (rows rows' : List (List ℕ)) (at : ℕ) (within : at < length rows) where
  pub pushed_count : (value : ℕ) → rows' ≡ set rows at (get_or rows at [] ++ value ∷ []) → count_all rows' ≡ count_all rows + 1
  pushed_count value is =
      let changed = sum_by-set (λ (row : List ℕ). length row) rows at (get_or rows at [] ++ value ∷ []) [] within in
      let longer = length-append (get_or rows at []) (value ∷ []) in
      let same = ap count_all is in omega (arith, changed, longer, same)

  -- also after a refusal
  pub push_count : {X Y : Type 0} (r : Result X Y) (value : ℕ) → OnOk r (rows' ≡ set rows at (get_or rows at [] ++ value ∷ [])) → OnErr r (rows' ≡ rows) → count_all rows' ≤ count_all rows + 1
  push_count (Ok x) value is same = let more = pushed_count value is in omega (arith, more)
  push_count (Err e) value is same = let as_before = ap count_all same in omega (arith, as_before)

  pub cleared_count : (row : List ℕ) → slice_get rows at ≡ Some row → rows' ≡ set rows at [] → count_all rows' + length row ≡ count_all rows
  cleared_count row stands is =
      let changed = sum_by-set (λ (row : List ℕ). length row) rows at [] [] within in
      let one = ap (λ (row : List ℕ). length row) (get_or_from_slice_get rows at row [] stands) in
      let same = ap count_all is in omega (arith, changed, one, same)

pub none_counted : (rows : List (List ℕ)) (n : ℕ) → rows ≡ replicate n [] → count_all rows ≡ 0
none_counted rows n is = let all = sum_by-replicate (λ (row : List ℕ). length row) n [] in let same = ap count_all is in omega (arith, all, same)

pub row_within : (rows : List (List ℕ)) (at : ℕ) (row : List ℕ) → slice_get rows at ≡ Some row → length row ≤ count_all rows
row_within rows at row stands =
    let some = sum_by_more_le (λ (row : List ℕ). length row) rows at [] (slice_get_within rows at row stands) in
    let one = ap (λ (row : List ℕ). length row) (get_or_from_slice_get rows at row [] stands) in omega (arith, some, one)

-- the sum of the first numbers
abbrev total : (ℕ → ℕ) → ℕ → ℕ
total f zero = 0
total f (suc n) = total f n + f n

total_cons : (m : ℕ) (ms : List ℕ) (n : ℕ) → total (λ k. slice_index_or (m ∷ ms) k 0) (suc n) ≡ m + total (λ k. slice_index_or ms k 0) n
total_cons m ms zero = omega arith
total_cons m ms (suc n) = let before = total_cons m ms n in omega (arith, before)

-- the ways out of all points are the edges
total_ways : (points : List GraphPoint) → total (λ n. slice_index_or (map way_count points) n 0) (length points) ≡ sum_by way_count points
total_ways [] = refl
total_ways (p ∷ points) = total_cons (way_count p) (map way_count points) (length points) ∙ ap (λ n. way_count p + n) (total_ways points) ∙ sym (sum_by-cons way_count p points)

-- the sum over a list, each element by its key
module _ (key : Fact → ℕ) (f : ℕ → ℕ) where
  abbrev weigh : List Fact → ℕ
  weigh [] = 0
  weigh (x ∷ xs) = f (key x) + weigh xs

  abbrev Absent : ℕ → List Fact → Type 0
  Absent k [] = ⊤
  Absent k (x ∷ xs) = (key x ≡ k → ⊥) × Absent k xs

  abbrev Apart : List Fact → Type 0
  Apart [] = ⊤
  Apart (x ∷ xs) = Absent (key x) xs × Apart xs

  abbrev Below : ℕ → List Fact → Type 0
  Below n [] = ⊤
  Below n (x ∷ xs) = (key x < n) × Below n xs

  -- without those of one key
  abbrev less : ℕ → List Fact → List Fact
  less m [] = []
  less m (x ∷ xs) = cond (eqb (key x) m) (less m xs) (x ∷ less m xs)

  absent_less : (k m : ℕ) (xs : List Fact) → Absent k xs → Absent k (less m xs)
  absent_less k m [] h = tt
  absent_less k m (x ∷ xs) h = pick (eqb (key x) m) (absent_less k m xs h.1)
    where
      pick : (b : Bool) → Absent k (less m xs) → Absent k (cond b (less m xs) (x ∷ less m xs))
      pick true ih = ih
      pick false ih = (h.0, ih)

  apart_less : (m : ℕ) (xs : List Fact) → Apart xs → Apart (less m xs)
  apart_less m [] h = tt
  apart_less m (x ∷ xs) h = pick (eqb (key x) m) (apart_less m xs h.1)
    where
      pick : (b : Bool) → Apart (less m xs) → Apart (cond b (less m xs) (x ∷ less m xs))
      pick true ih = ih
      pick false ih = (absent_less (key x) m xs h.0, ih)

  below_less : (m : ℕ) (xs : List Fact) → Below (suc m) xs → Below m (less m xs)
  below_less m [] h = tt
  below_less m (x ∷ xs) h = pick (eqb (key x) m) refl (below_less m xs h.1)
    where
      differs : eqb (key x) m ≡ false → key x ≡ m → ⊥
      differs e is = true≢false (sym (eq-eqb (key x) m is) ∙ e)

      pick : (b : Bool) → eqb (key x) m ≡ b → Below m (less m xs) → Below m (cond b (less m xs) (x ∷ less m xs))
      pick true e ih = ih
      pick false e ih = (let n = differs e in omega (arith, h.0, n), ih)

  weigh_absent : (m : ℕ) (xs : List Fact) → Absent m xs → weigh (less m xs) ≡ weigh xs
  weigh_absent m [] h = refl
  weigh_absent m (x ∷ xs) h = pick (eqb (key x) m) refl (weigh_absent m xs h.1)
    where
      pick : (b : Bool) → eqb (key x) m ≡ b → weigh (less m xs) ≡ weigh xs → weigh (cond b (less m xs) (x ∷ less m xs)) ≡ f (key x) + weigh xs
      pick true e ih = absurd (h.0 (eqb-true (key x) m e))
      pick false e ih = ap (λ n. f (key x) + n) ih

  weigh_less : (m : ℕ) (xs : List Fact) → Apart xs → weigh xs ≤ weigh (less m xs) + f m
  weigh_less m [] h = omega arith
  weigh_less m (x ∷ xs) h = pick (eqb (key x) m) refl (weigh_less m xs h.1)
    where
      pick : (b : Bool) → eqb (key x) m ≡ b → weigh xs ≤ weigh (less m xs) + f m → f (key x) + weigh xs ≤ weigh (cond b (less m xs) (x ∷ less m xs)) + f m
      pick true e ih = let is = eqb-true (key x) m e in omega (arith, weigh_absent m xs (subst (λ k. Absent k xs) is h.0), ap f is)
      pick false e ih = omega (arith, ih)

  weigh_total : (n : ℕ) (xs : List Fact) → Apart xs → Below n xs → weigh xs ≤ total f n
  weigh_total zero [] a b = omega arith
  weigh_total zero (x ∷ xs) a b = absurd (omega (arith, b.0))
  weigh_total (suc n) xs a b = omega (arith, weigh_less n xs a, weigh_total n (less n xs) (apart_less n xs a) (below_less n xs b))

-- the places of a table, row by row
module _ (f : ℕ → ℕ) (width : ℕ) where
  row_total : (p j : ℕ) → j ≤ width → total (λ k. f (k / width)) (p * width + j) ≡ total (λ k. f (k / width)) (p * width) + j * f p
  row_total p zero l =
      let none : p * width + 0 ≡ p * width = omega arith in
      ap (total (λ k. f (k / width))) none ∙ (omega arith)
  row_total p (suc j) l =
      let is : f ((p * width + j) / width) ≡ f p = ap f (div-mul-add p width j (omega arith)) in
      let one : p * width + suc j ≡ suc (p * width + j) = omega arith in
      ap (total (λ k. f (k / width))) one ∙ (omega (arith, row_total p j (omega arith), is))

  rows_total : (p : ℕ) → total (λ k. f (k / width)) (p * width) ≡ total f p * width
  rows_total zero =
      let none : 0 * width ≡ 0 = omega arith in
      ap (total (λ k. f (k / width))) none ∙ (omega arith)
  rows_total (suc p) =
      let one : suc p * width ≡ p * width + width = omega arith in
      ap (total (λ k. f (k / width))) one ∙ row_total p width (omega arith) ∙ (omega (arith, rows_total p))

module _ (width : ℕ) (f : ℕ → ℕ) where
  abbrev place : Fact → ℕ
  place c = c.old * width + c.new

  apart_from : (facts : List Fact) → ((i j : ℕ) (c d : Fact) → slice_get facts i ≡ Some c → slice_get facts j ≡ Some d → place c ≡ place d → i ≡ j) → Apart place f facts
  apart_from [] h = tt
  apart_from (x ∷ xs) h = (absent xs (λ j d e is. let z : 0 ≡ suc j = h 0 (suc j) x d refl e (sym is) in absurd (omega arith)), apart_from xs (λ i j c d ei ej is. let z : suc i ≡ suc j = h (suc i) (suc j) c d ei ej is in omega arith))
    where
      absent : (ys : List Fact) → ((j : ℕ) (d : Fact) → slice_get ys j ≡ Some d → place d ≡ place x → ⊥) → Absent place f (place x) ys
      absent [] n = tt
      absent (y ∷ ys) n = (n 0 y refl, absent ys (λ j d e is. n (suc j) d e is))

  below_from : (facts : List Fact) (n : ℕ) → ((i : ℕ) (c : Fact) → slice_get facts i ≡ Some c → place c < n) → Below place f n facts
  below_from [] n h = tt
  below_from (x ∷ xs) n h = (h 0 x refl, below_from xs n (λ i c e. h (suc i) c e))

weighed : (g : Tables) (width : ℕ) (facts : List Fact) → ((i : ℕ) (c : Fact) → slice_get facts i ≡ Some c → c.new < width)
    → weigh (λ (c : Fact). c.old * width + c.new) (λ k. way_count_at g (k / width)) facts ≡ allowed g facts
weighed g width [] h = refl
weighed g width (x ∷ xs) h =
    ap₂ (λ m n. m + n) (ap (way_count_at g) (div-mul-add x.old width x.new (h 0 x refl))) (weighed g width xs (λ i c e. h (suc i) c e))
    ∙ sym (sum_by-cons (λ (c : Fact). way_count_at g c.old) x xs)

pub allowed_within : (g g' : Tables) (facts : List Fact) → IsBookOf g g' facts → allowed g facts ≤ edge_count g * point_count g'
allowed_within g g' facts book =
    let f : ℕ → ℕ = λ k. way_count_at g (k / point_count g') in
    let bound = weigh_total (place (point_count g') f) f (point_count g * point_count g') facts
    (apart_from (point_count g') f facts (λ i j c d ei ej is. let s = same_from_place c.old c.new d.old d.new (point_count g') (book.within i c ei).new (book.within j d ej).new is in book.once i j c d ei ej s.0 s.1))
    (below_from (point_count g') f facts (point_count g * point_count g') (λ i c e. let o = book.within i c e in let k = mul-add-lt c.old (point_count g') c.new (point_count g) o.old o.new in omega (arith, k))) in
    let rows = rows_total (λ p. way_count_at g p) (point_count g') (point_count g) in
    let all : total (λ p. way_count_at g p) (point_count g) ≡ edge_count g = total_ways g.1 in
    let scaled : total (λ p. way_count_at g p) (point_count g) * point_count g' ≡ edge_count g * point_count g' = ap (λ n. n * point_count g') all in
    let same = weighed g (point_count g') facts (λ i c e. (book.within i c e).new) in
    omega (arith, bound, rows, scaled, same)

-- what is asked, as one more fact is followed: asked questions and calls that wait are allowed by the facts so far
module _ (g : Tables) (facts : List Fact) (at : ℕ) (asked left : ℕ) (paid : asked + left ≤ allowed g (take at facts)) where
  -- all that is asked is allowed
  pub paid_now : asked + left ≤ allowed g facts
  paid_now = let part = sum_by-take-le (λ (d : Fact). way_count_at g d.old) facts at in omega (arith, paid, part)

  -- and so is what the next fact asks
  pub paid_next : at < length facts → (c : Fact) → slice_get facts at ≡ Some c → asked + left + way_count_at g c.old ≤ allowed g facts
  paid_next within c stands =
      let more = sum_by_more_le (λ (d : Fact). way_count_at g d.old) facts at c within in
      let read = ap (λ (d : Fact). way_count_at g d.old) (get_or_from_slice_get facts at c c stands) in
      omega (arith, paid, more, read)

  -- after it has been followed
  pub paid_more : (facts' : List Fact) (asked' left' : ℕ) → at < length facts → Extends facts facts'
      → ((c : Fact) → slice_get facts at ≡ Some c → asked' + left' ≤ asked + left + way_count_at g c.old) → asked' + left' ≤ allowed g (take (at + 1) facts')
  paid_more facts' asked' left' within grows one =
      let c = get_some facts at within in
      let now = one c.0 c.1 in
      let more = sum_by_more (λ (d : Fact). way_count_at g d.old) facts at c.0 within in
      let read = ap (λ (d : Fact). way_count_at g d.old) (get_or_from_slice_get facts at c.0 c.0 c.1) in
      let same = ap (allowed g) (ap (take (at + 1)) grows.is ∙ take-append-le (at + 1) facts grows.more (omega arith)) in
      omega (arith, paid, now, more, read, same)

  -- while facts are added
  pub paid_extends : (facts' : List Fact) → at ≤ length facts → Extends facts facts' → asked + left ≤ allowed g (take at facts')
  paid_extends facts' upto grows =
      let same = ap (allowed g) (ap (take at) grows.is ∙ take-append-le at facts grows.more upto) in
      omega (arith, paid, same)
