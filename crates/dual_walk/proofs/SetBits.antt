-- One bit of a list of words is set.
use Rattle.std.proofs.Common.{◌≡◌, ◌<◌, ◌+◌, ◌*◌, ◌/◌, ◌%◌, ◌^◌, ℕ, List, length, get_or, set, w64, sym, ap, ◌∙◌, ◌⊎◌, inl, inr, arith, get_or-set_same, get_or-set_other, bit_or}
use Rattle.std.specs.Int.{bit_at}
use Rattle.std.proofs.lemmas.Bool.{cases_eq}
use Rattle.std.proofs.lemmas.Nat.{same_from_place}
use Rattle.std.proofs.lemmas.Nat.Bits.{bit_at_set_same, bit_at_set_other}
use Rattle.dual_walk.specs.Bits.{bit_of, IsIn}

module _ (words : List ℕ) (place : ℕ) (within : place < 64 * length words) where
  abbrev word : ℕ
  word = bit_or (get_or words (place / 64) 0) (1 * 2 ^ (place % 64) % 18446744073709551616)

  in_words : place / 64 < length words
  in_words = omega arith

  in_word : place % 64 < 64
  in_word = omega arith

  pub set_same : bit_of (set words (place / 64) (bit_or (get_or words (place / 64) 0) (1 * 2 ^ (place % 64) % 18446744073709551616))) place ≡ 1
  set_same = ap (λ x. bit_at x (place % 64)) (get_or-set_same words (place / 64) word 0 in_words) ∙ bit_at_set_same w64 (get_or words (place / 64) 0) (place % 64) in_word

  pub set_other : (k : ℕ) → (k ≡ place → ⊥) → bit_of (set words (place / 64) (bit_or (get_or words (place / 64) 0) (1 * 2 ^ (place % 64) % 18446744073709551616))) k ≡ bit_of words k
  set_other k differs = pick (cases_eq (k / 64) (place / 64))
    where
      pick : (k / 64 ≡ place / 64) ⊎ (k / 64 ≡ place / 64 → ⊥) → bit_of (set words (place / 64) word) k ≡ bit_of words k
      pick (inl same) =
          let apart : k % 64 ≡ place % 64 → ⊥ = λ e. differs (omega (arith, e, same)) in
          let read : get_or (set words (place / 64) word) (k / 64) 0 ≡ word = ap (λ n. get_or (set words (place / 64) word) n 0) same ∙ get_or-set_same words (place / 64) word 0 in_words in
          ap (λ x. bit_at x (k % 64)) read ∙ bit_at_set_other w64 (get_or words (place / 64) 0) (place % 64) in_word (k % 64) apart ∙ ap (λ n. bit_at (get_or words n 0) (k % 64)) (sym same)
      pick (inr other) = ap (λ x. bit_at x (k % 64)) (get_or-set_other words (place / 64) (k / 64) word 0 other)

-- one more pair
module _ (width : ℕ) (before after : List ℕ) (row column : ℕ) (in_row : column < width) (same : bit_of after (row * width + column) ≡ 1) (other : (k : ℕ) → (k ≡ row * width + column → ⊥) → bit_of after k ≡ bit_of before k) where
  pub one_more : (p p' : ℕ) → (IsIn width after p p' → IsIn width before p p' ⊎ ((p ≡ row) × (p' ≡ column))) × (IsIn width before p p' ⊎ ((p ≡ row) × (p' ≡ column)) → IsIn width after p p')
  one_more p p' = (λ h. to h (cases_eq (p * width + p') (row * width + column)), from)
    where
      to : IsIn width after p p' → (p * width + p' ≡ row * width + column) ⊎ (p * width + p' ≡ row * width + column → ⊥) → IsIn width before p p' ⊎ ((p ≡ row) × (p' ≡ column))
      to h (inl e) = inr (same_from_place p p' row column width h.row in_row e)
      to h (inr n) = inl (record { row = h.row; bit = sym (other (p * width + p') n) ∙ h.bit })

      stays : IsIn width before p p' → (p * width + p' ≡ row * width + column) ⊎ (p * width + p' ≡ row * width + column → ⊥) → IsIn width after p p'
      stays h (inl e) = record { row = h.row; bit = ap (bit_of after) e ∙ same }
      stays h (inr n) = record { row = h.row; bit = other (p * width + p') n ∙ h.bit }

      from : IsIn width before p p' ⊎ ((p ≡ row) × (p' ≡ column)) → IsIn width after p p'
      from (inl h) = stays h (cases_eq (p * width + p') (row * width + column))
      from (inr h) = rw (h.0, h.1) (record { row = in_row; bit = same })
