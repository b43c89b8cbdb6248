-- Bits that two lists of words have in common, and bits of words that are joined.
use Rattle.std.proofs.Common.{◌≡◌, ◌<◌, ◌≤◌, ◌+◌, ◌-◌, ◌*◌, ◌/◌, ◌%◌, ◌^◌, ℕ, true, false, ◌&&◌, ◌||◌, eqb, ◌⊎◌, inl, inr, List, length, get_or, w64, refl, sym, ap, ◌∙◌, arith, bit_and, bit_or}
use Rattle.std.specs.Int.{bit_at, trailing_zeros}
use Rattle.std.proofs.lemmas.Bool.{cases_lt, and_parts, and_from}
use Rattle.std.proofs.lemmas.List.{get_or_past}
use Rattle.std.proofs.lemmas.Nat.{and_le_l}
use Rattle.std.proofs.lemmas.Nat.Bits.{bit_at-trailing_zeros, bit_at-zero}
use Rattle.edge_trace.specs.Rows.{IsLeastCommon, NoneCommon}
use Rattle.edge_trace.specs.Words.{bit_of, bits_of}
use Rattle.edge_trace.proofs.Laws.{has_past}
use Rattle.edge_trace.proofs.BitLemmas.{and_test, or_test, has-bits_of, length-row_of}

-- bit i of word `at`
bit_of_word : (words : List ℕ) (at i : ℕ) → i < 64 → bit_of words (64 * at + i) ≡ eqb (bit_at (get_or words at 0) i) 1
bit_of_word words at i under =
    let word : (64 * at + i) / 64 ≡ at = omega arith in
    let bit : (64 * at + i) % 64 ≡ i = omega arith in
    rw (word, bit) refl

-- ---- one word on, where no bit before word `at` is common
module _ (a b : List ℕ) (at : ℕ) (before : (place : ℕ) → place < 64 * at → bit_of a place ≡ true → bit_of b place ≡ true → ⊥) where
  abbrev word : ℕ
  word = bit_and (get_or a at 0) (get_or b at 0)

  abbrev lowest : ℕ
  lowest = trailing_zeros w64 word

  -- a bit of the word that both have is a bit of their `&`
  common_bit : (place : ℕ) → 64 * at ≤ place → place < 64 * (at + 1) → bit_of a place ≡ true → bit_of b place ≡ true → eqb (bit_at (bit_and (get_or a at 0) (get_or b at 0)) (place - 64 * at)) 1 ≡ true
  common_bit place low high one two =
      let whole : 64 * at + (place - 64 * at) ≡ place = omega arith in
      let in_a : eqb (bit_at (get_or a at 0) (place - 64 * at)) 1 ≡ true = sym (bit_of_word a at (place - 64 * at) (omega arith)) ∙ ap (bit_of a) whole ∙ one in
      let in_b : eqb (bit_at (get_or b at 0) (place - 64 * at)) 1 ≡ true = sym (bit_of_word b at (place - 64 * at) (omega arith)) ∙ ap (bit_of b) whole ∙ two in
      and_test (get_or a at 0) (get_or b at 0) (place - 64 * at) ∙ and_from (eqb (bit_at (get_or a at 0) (place - 64 * at)) 1) (eqb (bit_at (get_or b at 0) (place - 64 * at)) 1) in_a in_b

  pub none_through : bit_and (get_or a at 0) (get_or b at 0) ≡ 0 → (place : ℕ) → place < 64 * (at + 1) → bit_of a place ≡ true → bit_of b place ≡ true → ⊥
  none_through zero place high one two = pick (cases_lt place (64 * at))
    where
      pick : (place < 64 * at) ⊎ (64 * at ≤ place) → ⊥
      pick (inl low) = before place low one two
      pick (inr low) =
          let bad : false ≡ true = sym (ap (λ n. eqb n 1) (ap (λ w. bit_at w (place - 64 * at)) zero ∙ bit_at-zero (place - 64 * at))) ∙ common_bit place low high one two in
          cc

  pub lowest_here : (bit_and (get_or a at 0) (get_or b at 0) ≡ 0 → ⊥) → get_or a at 0 < 2 ^ 64 → IsLeastCommon (bits_of a) (bits_of b) (64 * at + trailing_zeros w64 (bit_and (get_or a at 0) (get_or b at 0)))
  lowest_here some fits = of (bit_at-trailing_zeros w64 word (omega arith) (omega (arith, and_le_l (get_or a at 0) (get_or b at 0))))
    where
      of : (lowest < 64) × (bit_at word lowest ≡ 1) × ((i : ℕ) → i < lowest → bit_at word i ≡ 0) → IsLeastCommon (bits_of a) (bits_of b) (64 * at + lowest)
      of lows =
          let under : lowest < 64 = lows.0 in
          let both : (eqb (bit_at (get_or a at 0) lowest) 1 && eqb (bit_at (get_or b at 0) lowest) 1) ≡ true = sym (and_test (get_or a at 0) (get_or b at 0) lowest) ∙ ap (λ n. eqb n 1) lows.1 in
          record {
            first = has-bits_of a (64 * at + lowest) ∙ bit_of_word a at lowest under ∙ (and_parts (eqb (bit_at (get_or a at 0) lowest) 1) (eqb (bit_at (get_or b at 0) lowest) 1) both).0;
            second = has-bits_of b (64 * at + lowest) ∙ bit_of_word b at lowest under ∙ (and_parts (eqb (bit_at (get_or a at 0) lowest) 1) (eqb (bit_at (get_or b at 0) lowest) 1) both).1;
            least = λ other less one two. pick other less (sym (has-bits_of a other) ∙ one) (sym (has-bits_of b other) ∙ two) (cases_lt other (64 * at));
          }
        where
          pick : (other : ℕ) → other < 64 * at + lowest → bit_of a other ≡ true → bit_of b other ≡ true → (other < 64 * at) ⊎ (64 * at ≤ other) → ⊥
          pick other less one two (inl low) = before other low one two
          pick other less one two (inr low) =
              let bad : false ≡ true = sym (ap (λ n. eqb n 1) (lows.2 (other - 64 * at) (omega arith))) ∙ common_bit other low (omega (arith, lows.0)) one two in
              cc

-- no bit of the words is common where none is in the first n words, which are all
pub none_in_all : (a b : List ℕ) (n : ℕ) → length a ≤ n → ((place : ℕ) → place < 64 * n → bit_of a place ≡ true → bit_of b place ≡ true → ⊥) → NoneCommon (bits_of a) (bits_of b)
none_in_all a b n whole before place one two = pick (cases_lt place (64 * n))
  where
    pick : (place < 64 * n) ⊎ (64 * n ≤ place) → ⊥
    pick (inl under) = before place under (sym (has-bits_of a place) ∙ one) (sym (has-bits_of b place) ∙ two)
    pick (inr past) =
        let bad : false ≡ true = sym (has_past (bits_of a) place (omega (arith, length-row_of (64 * length a) a))) ∙ one in
        cc

-- ---- words that are joined place by place
pub either_bit : (old others new : List ℕ) → length old ≡ length others → length new ≡ length old → ((k : ℕ) → k < length others → get_or new k 0 ≡ bit_or (get_or old k 0) (get_or others k 0)) → (place : ℕ) → bit_of new place ≡ (bit_of old place || bit_of others place)
either_bit old others new same long each place = pick (cases_lt (place / 64) (length others))
  where
    pick : (place / 64 < length others) ⊎ (length others ≤ place / 64) → bit_of new place ≡ (bit_of old place || bit_of others place)
    pick (inl under) =
        ap (λ w. eqb (bit_at w (place % 64)) 1) (each (place / 64) under) ∙ or_test (get_or old (place / 64) 0) (get_or others (place / 64) 0) (place % 64)
    pick (inr past) =
        rw (get_or_past new (place / 64) 0 (omega arith), get_or_past old (place / 64) 0 (omega arith), get_or_past others (place / 64) 0 past, bit_at-zero (place % 64)) refl
