-- Slots that are cleared.
use Rattle.std.proofs.Common.{◌≡◌, ◌∙◌, ℕ, zero, suc, ◌+◌, ◌-◌, ◌<◌, ◌≤◌, min, pos, List, [], ◌∷◌, ◌++◌, map, length, take, drop, replicate, slice_set, refl, ap, sym, arith}
use Rattle.std.proofs.Common.{length-set}
use Rattle.std.proofs.lemmas.List.{length-map}
use Rattle.csub_slots.specs.Layout as layout
use Rattle.csub_slots.specs.Acts.{flat_cleared}
use Rattle.csub_slots.specs.declared.slot.Slot.{Slot}
use Rattle.csub_slots.specs.declared.slot.Slot.TheVariants.{Holding}
use Rattle.csub_slots.specs.Seen.{slot_seen}
use Rattle.csub_slots.proofs.Fills.{seen_append, map_take}

abbrev zero_slot : layout.Slot
zero_slot = layout.holding (pos 0)

-- slots that are cleared in two steps
pub cleared_more : (at a b : ℕ) (slots : List layout.Slot) → flat_cleared at (a + b) slots ≡ flat_cleared (at + a) b (flat_cleared at a slots)
cleared_more at zero b slots =
    let none : 0 + b ≡ b = omega arith in
    let here : at ≡ at + 0 = omega arith in
    ap (λ n. flat_cleared at n slots) none ∙ ap (λ n. flat_cleared n b slots) here
cleared_more at (suc a) b slots =
    let one : suc a + b ≡ suc (a + b) = omega arith in
    let here : at + 1 + a ≡ at + suc a = omega arith in
    ap (λ n. flat_cleared at n slots) one ∙ cleared_more (at + 1) a b (slice_set slots at zero_slot)
    ∙ ap (λ n. flat_cleared n b (flat_cleared (at + 1) a (slice_set slots at zero_slot))) here

-- none is cleared behind the last
set_past : (xs : List layout.Slot) (at : ℕ) (x : layout.Slot) → length xs ≤ at → slice_set xs at x ≡ xs
set_past [] at x h = refl
set_past (y ∷ ys) zero x h = absurd (omega arith)
set_past (y ∷ ys) (suc at) x h = ap (λ zs. y ∷ zs) (set_past ys at x (omega arith))

cleared_past : (at n : ℕ) (xs : List layout.Slot) → length xs ≤ at → flat_cleared at n xs ≡ xs
cleared_past at zero xs h = refl
cleared_past at (suc n) xs h = ap (λ (ys : List layout.Slot). flat_cleared (at + 1) n ys) (set_past xs at zero_slot h) ∙ cleared_past (at + 1) n xs (omega arith)

cleared_length : (at n : ℕ) (xs : List layout.Slot) → length (flat_cleared at n xs) ≡ length xs
cleared_length at zero xs = refl
cleared_length at (suc n) xs = cleared_length (at + 1) n (slice_set xs at zero_slot) ∙ length-set xs at zero_slot

-- those behind the first
cleared_behind : (at n : ℕ) (x : layout.Slot) (xs : List layout.Slot) → flat_cleared (suc at) n (x ∷ xs) ≡ x ∷ flat_cleared at n xs
cleared_behind at zero x xs = refl
cleared_behind at (suc n) x xs =
    let next : suc at + 1 ≡ suc (at + 1) = omega arith in
    ap (λ k. flat_cleared k n (x ∷ slice_set xs at zero_slot)) next ∙ cleared_behind (at + 1) n x (slice_set xs at zero_slot)

-- slots that are cleared are 0, and all others stay
cleared_part : (at n : ℕ) (xs : List layout.Slot) → at + n ≤ length xs → flat_cleared at n xs ≡ take at xs ++ (replicate n zero_slot ++ drop n (drop at xs))
cleared_part zero zero xs h = refl
cleared_part zero (suc n) [] h = absurd (omega arith)
cleared_part zero (suc n) (x ∷ xs) h =
    let next : 0 + 1 ≡ suc 0 = omega arith in
    ap (λ k. flat_cleared k n (zero_slot ∷ xs)) next ∙ cleared_behind 0 n zero_slot xs ∙ ap (λ ys. zero_slot ∷ ys) (cleared_part zero n xs (omega arith))
cleared_part (suc at) n [] h = absurd (omega arith)
cleared_part (suc at) n (x ∷ xs) h = cleared_behind at n x xs ∙ ap (λ ys. x ∷ ys) (cleared_part at n xs (omega arith))

map_drop : {X Y : Type 0} (f : X → Y) (n : ℕ) (xs : List X) → map f (drop n xs) ≡ drop n (map f xs)
map_drop f zero xs = refl
map_drop f (suc n) [] = refl
map_drop f (suc n) (x ∷ xs) = map_drop f n xs

seen_zeros : (n : ℕ) → map slot_seen (replicate n (Holding (pos 0))) ≡ replicate n zero_slot
seen_zeros zero = refl
seen_zeros (suc n) = ap (λ zs. zero_slot ∷ zs) (seen_zeros n)

-- slots that are cleared as far as they go
pub cleared_slots : (at n k : ℕ) (xs ys : List Slot) → ys ≡ replicate k (Holding (pos 0)) → at + k ≤ length xs → k ≤ n → (k < n → length xs ≤ at + k)
    → map slot_seen (take at xs ++ (ys ++ drop k (drop at xs))) ≡ flat_cleared at n (map slot_seen xs)
cleared_slots at n k xs ys e h l past =
    let count = length-map xs slot_seen in
    let whole : n ≡ k + (n - k) = omega arith in
    seen_append (take at xs) (ys ++ drop k (drop at xs))
    ∙ ap (λ (zs : List layout.Slot). zs ++ map slot_seen (ys ++ drop k (drop at xs))) (map_take slot_seen at xs)
    ∙ ap (λ (zs : List layout.Slot). take at seen ++ zs) (seen_append ys (drop k (drop at xs)) ∙ ap (λ (zs : List layout.Slot). zs ++ map slot_seen (drop k (drop at xs))) (ap (map slot_seen) e ∙ seen_zeros k))
    ∙ ap (λ (zs : List layout.Slot). take at seen ++ (replicate k zero_slot ++ zs)) (map_drop slot_seen k (drop at xs) ∙ ap (drop k) (map_drop slot_seen at xs))
    ∙ sym (cleared_part at k seen (omega arith))
    ∙ sym (rest (n - k) refl)
    ∙ sym (cleared_more at k (n - k) seen)
    ∙ ap (λ m. flat_cleared at m seen) (sym whole)
  where
    seen : List layout.Slot
    seen = map slot_seen xs

    rest : (m : ℕ) → n - k ≡ m → flat_cleared (at + k) m (flat_cleared at k seen) ≡ flat_cleared at k seen
    rest zero g = refl
    rest (suc m) g =
        let more = past (omega arith) in
        let count = length-map xs slot_seen in
        let same = cleared_length at k seen in
        cleared_past (at + k) (suc m) (flat_cleared at k seen) (omega arith)

-- and none behind the last, or where there is none to clear
pub cleared_none : (at n : ℕ) (xs : List Slot) → min (length xs) (at + n) ≤ at → map slot_seen xs ≡ flat_cleared at n (map slot_seen xs)
cleared_none at zero xs h = refl
cleared_none at (suc n) xs h = let count = length-map xs slot_seen in sym (cleared_past at (suc n) (map slot_seen xs) (omega arith))
