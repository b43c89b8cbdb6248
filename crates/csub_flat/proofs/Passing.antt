-- Objects one after another, looked at in turn.
use Rattle.std.proofs.Common.{◌≡◌, ◌<◌, ◌≤◌, ◌∙◌, ℕ, zero, suc, ◌+◌, ◌-◌, ◌&&◌, nat_eq, cond, Some, List, [], ◌∷◌, ◌++◌, map, drop, length, get_or, ap, sym, subst, arith, bytes_eq}
use Rattle.std.proofs.lemmas.List.{drop_more, drop_all}
use Rattle.csub_objects.specs.Types.{Name, cells}
use Rattle.csub_semantics.specs.Syntax.{LocalTree}
use Rattle.csub_flat.specs.Frames.{objects_size}
use Rattle.csub_flat.specs.Objects.{ObjectSlots, slot_at, AreObjectSlots}
use Rattle.csub_flat.proofs.Lookups.{one_before}

module _ {X : Type 0} (object : X → LocalTree) where
  -- so many slots before the objects that are left
  pub record HasSize (xs : List X) (i size : ℕ) : Type 0 where
    pub sum : size + objects_size (map object (drop i xs)) ≡ objects_size (map object xs)

  size_left : (xs : List X) (i : ℕ) → objects_size (map object (drop i xs)) ≤ objects_size (map object xs)
  size_left xs zero = omega arith
  size_left [] (suc i) = omega arith
  size_left (x ∷ xs) (suc i) = let rest = size_left xs i in omega arith

  -- those that are left have their slots, of which the last ends before slot k
  pub record HavePlaces (xs : List X) (i slot k : ℕ) (old new : ObjectSlots) : Type 0 where
    pub size : slot + objects_size (map object (drop i xs)) ≡ k
    pub slots : (os : List LocalTree) → AreObjectSlots k os old → AreObjectSlots slot (map object (drop i xs) ++ os) new

  module _ (xs : List X) where
    pub places_none : (i k : ℕ) (m : ObjectSlots) → length xs ≤ i → HavePlaces xs i k k m m
    places_none i k m end =
        let none = drop_all i xs end in
        record {
          size = let size = ap (λ ys. objects_size (map object ys)) none in omega arith;
          slots = λ os h. subst (λ ys. AreObjectSlots k (map object ys ++ os) m) (sym none) h;
        }

    pub places_all : (i slot k : ℕ) (old new : ObjectSlots) → i ≡ 0 → HavePlaces xs i slot k old new
        → (os : List LocalTree) → AreObjectSlots k os old → AreObjectSlots (k - objects_size (map object xs)) (map object xs ++ os) new
    places_all i slot k old new first h os before =
        let all : drop i xs ≡ xs = ap (λ j. drop j xs) first in
        let sum = h.size in
        let size = ap (λ ys. objects_size (map object ys)) all in
        let place : slot ≡ k - objects_size (map object xs) = omega arith in
        subst (λ s. AreObjectSlots s (map object xs ++ os) new) place (subst (λ ys. AreObjectSlots slot (map object ys ++ os) new) all (h.slots os before))

    -- one object more, from the back
    module _ (i j : ℕ) (x : X) (next : j + 1 ≡ i) (inside : j < length xs) (is : x ≡ get_or xs j x) where
      last_left : map object (drop j xs) ≡ object x ∷ map object (drop i xs)
      last_left =
          ap (map object) (drop_more xs j x inside) ∙ ap (λ y. object y ∷ map object (drop (j + 1) xs)) (sym is)
          ∙ ap (λ n. object x ∷ map object (drop n xs)) next

      pub room_before : (slot k : ℕ) (old new : ObjectSlots) → HavePlaces xs i slot k old new → objects_size (map object xs) ≤ k → cells (object x).ctype ≤ slot
      room_before slot k old new h most =
          let one = ap objects_size last_left in let all = size_left xs j in let sum = h.size in omega arith

      pub places_more : (slot k s : ℕ) (old m new : ObjectSlots) → HavePlaces xs i slot k old m → objects_size (map object xs) ≤ k → s ≡ slot - cells (object x).ctype
          → ((a : Name) (n : ℕ) → slot_at new a n ≡ cond (bytes_eq (object x).name a && nat_eq (object x).number n) (Some s) (slot_at m a n))
          → HavePlaces xs j s k old new
      places_more slot k s old m new h most is_slot put =
          let room = room_before slot k old m h most in
          let whole : slot ≡ s + cells (object x).ctype = omega arith in
          record {
            size = let one = ap objects_size last_left in let sum = h.size in omega arith;
            slots = λ os before.
                subst (λ us. AreObjectSlots s (us ++ os) new) (sym last_left)
                (one_before (object x) (map object (drop i xs) ++ os) s slot m new whole put (h.slots os before));
          }
