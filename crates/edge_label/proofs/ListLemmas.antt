-- Lists by places.
use Rattle.std.proofs.Common.{◌≡◌, ◌⊎◌, ◌-◌, ◌∙◌, ℕ, zero, suc, List, [], ◌∷◌, ◌++◌, length, drop, map, Some, refl, sym, ap, inl, inr, arith, slice_get, length-append}
use Rattle.std.proofs.Math.Seq.{drop-append_seam}
use Rattle.std.proofs.lemmas.List.{length-map}
use Rattle.std.proofs.lemmas.Option.{same_Some}
use Rattle.edge_label.specs.Tables.{last_of}

-- an element keeps its place
pub kept : {X : Type 0} (xs more : List X) (n : ℕ) (x : X) → slice_get xs n ≡ Some x → slice_get (xs ++ more) n ≡ Some x
kept [] more n x e = absurd cc
kept (y ∷ xs) more zero x e = e
kept (y ∷ xs) more (suc n) x e = kept xs more n x e

-- the last of a list, and those before it
pub last_or_before : {X : Type 0} (xs : List X) (last x : X) (p : ℕ) → slice_get (xs ++ last ∷ []) p ≡ Some x → (slice_get xs p ≡ Some x) ⊎ ((p ≡ length xs) × (x ≡ last))
last_or_before [] last x p at = inr (first p at)
  where
    first : (p : ℕ) → slice_get (last ∷ []) p ≡ Some x → (p ≡ 0) × (x ≡ last)
    first zero at = (refl, sym (same_Some _ _ at))
    first (suc p) at = absurd cc
last_or_before (y ∷ xs) last x zero at = inl at
last_or_before (y ∷ xs) last x (suc p) at = elim (last_or_before xs last x p at) [
  | inl before ↦ inl before
  | inr here ↦ inr (ap suc here.0, here.1)
]

pub last_is : {X : Type 0} (xs : List X) (last : X) → slice_get (xs ++ last ∷ []) (length xs) ≡ Some last
last_is [] last = refl
last_is (y ∷ xs) last = last_is xs last

-- those behind the first
pub those_behind : {X Y : Type 0} (f : X → Y) (xs ys : List X) → last_of (length (map f ys)) (xs ++ ys) ≡ ys
those_behind f xs ys =
    let first : length (xs ++ ys) - length (map f ys) ≡ length xs = omega (arith, length-append xs ys, length-map ys f) in
    ap (λ n. drop n (xs ++ ys)) first ∙ drop-append_seam xs ys
