-- Laws of a row that is written as bytes, for proofs here and above.
use Rattle.std.proofs.Common.{◌≡◌, ◌<◌, ◌+◌, ◌*◌, ◌/◌, ◌%◌, ◌^◌, ℕ, Bool, true, false, cond, eqb, ◌⊎◌, inl, inr, List, [], ◌∷◌, map, length, get_or, refl, sym, ap, ◌∙◌, ◌↔◌, IsTrue, subst, arith}
use Rattle.std.specs.Int.{bit_at}
use Rattle.std.specs.List.{range_with_len, sum_by}
use Rattle.std.proofs.lemmas.Bool.{eqb-true}
use Rattle.std.proofs.lemmas.List.FromFn.{length-map-range_with_len, get_or-map-range_with_len}
use Rattle.std.proofs.lemmas.Nat.Bits.{bit_at-lt, same_from_bits_below}
use Rattle.std.proofs.lemmas.Simd.{mask_l-lt, bit_mask_l}
use lib.Lanes.{mask_l}
use Rattle.edge_trace.specs.Rows.{has, byte_of}
use Rattle.edge_trace.proofs.Laws.{same_rows}
use Rattle.edge_trace.proofs.BitLemmas.{bit_cases}

-- ---- eight truth values as a byte
unfoldable eight : (ℕ → Bool) → List Bool
eight test = map test (range_with_len 0 8)

length-eight : (test : ℕ → Bool) → length (eight test) ≡ 8
unfolding eight
length-eight test = length-map-range_with_len test 0 8

eight_at : (test : ℕ → Bool) (i : ℕ) → i < 8 → get_or (eight test) i false ≡ test i
unfolding eight
eight_at test i under = get_or-map-range_with_len test 0 8 i i false under (omega arith)

scale : (t : Bool) (k : ℕ) → cond t k 0 ≡ k * cond t 1 0
scale true k = omega arith
scale false k = omega arith

sum_is_mask : (test : ℕ → Bool) → sum_by (λ i. cond (test i) (2 ^ i) 0) (0 ∷ 1 ∷ 2 ∷ 3 ∷ 4 ∷ 5 ∷ 6 ∷ 7 ∷ []) ≡ mask_l (eight test)
unfolding eight
sum_is_mask test =
    omega (arith, scale (test 1) 2, scale (test 2) 4, scale (test 3) 8, scale (test 4) 16, scale (test 5) 32, scale (test 6) 64, scale (test 7) 128)

byte_is_mask : (row : List Bool) (at : ℕ) → byte_of row at ≡ mask_l (eight (λ i. has row (8 * at + i)))
unfolding byte_of
byte_is_mask row at = sum_is_mask (λ i. has row (8 * at + i))

test_of_bit : (t : Bool) → eqb (cond t 1 0) 1 ≡ t
test_of_bit true = refl
test_of_bit false = refl

-- ---- the bits of a byte are what the row has, and they make the byte
pub byte_of-lt : (row : List Bool) (at : ℕ) → byte_of row at < 256
byte_of-lt row at =
    let ms : List Bool = eight (λ i. has row (8 * at + i)) in
    omega (arith, byte_is_mask row at, subst (λ n. mask_l (eight (λ i. has row (8 * at + i))) < 2 ^ n) (length-eight (λ i. has row (8 * at + i))) (mask_l-lt (eight (λ i. has row (8 * at + i)))))

pub bit_of_byte : (row : List Bool) (at i : ℕ) → i < 8 → eqb (bit_at (byte_of row at) i) 1 ≡ has row (8 * at + i)
bit_of_byte row at i under =
    ap (λ n. eqb (bit_at n i) 1) (byte_is_mask row at) ∙ ap (λ n. eqb n 1) (bit_mask_l (eight (λ k. has row (8 * at + k))) i) ∙ test_of_bit (get_or (eight (λ k. has row (8 * at + k))) i false) ∙ eight_at (λ k. has row (8 * at + k)) i under

same_bits : (m n : ℕ) → m < 2 → n < 2 → eqb m 1 ≡ eqb n 1 → m ≡ n
same_bits m n p q same = at (bit_cases m p) (bit_cases n q) same
  where
    at : (m ≡ 0) ⊎ (m ≡ 1) → (n ≡ 0) ⊎ (n ≡ 1) → eqb m 1 ≡ eqb n 1 → m ≡ n
    at (inl a) (inl b) e = a ∙ sym b
    at (inr a) (inr b) e = a ∙ sym b
    at (inl a) (inr b) e = let bad : false ≡ true = ap (λ k. eqb k 1) (sym a) ∙ e ∙ ap (λ k. eqb k 1) b in cc
    at (inr a) (inl b) e = let bad : true ≡ false = ap (λ k. eqb k 1) (sym a) ∙ e ∙ ap (λ k. eqb k 1) b in cc

pub byte_from_bits : (row : List Bool) (at n : ℕ) → n < 256 → ((i : ℕ) → i < 8 → eqb (bit_at n i) 1 ≡ has row (8 * at + i)) → byte_of row at ≡ n
byte_from_bits row at n fits each =
    same_from_bits_below 8 (byte_of row at) n (byte_of-lt row at) fits (λ i under. same_bits (bit_at (byte_of row at) i) (bit_at n i) (bit_at-lt (byte_of row at) i) (bit_at-lt n i) (bit_of_byte row at i under ∙ sym (each i under)))

pub bit_tells : (row : List Bool) (at i : ℕ) → i < 8 → (bit_at (byte_of row at) i ≡ 1) ↔ IsTrue (has row (8 * at + i))
bit_tells row at i under = (λ one. sym (bit_of_byte row at i under) ∙ ap (λ n. eqb n 1) one, λ is_in. eqb-true (bit_at (byte_of row at) i) 1 (bit_of_byte row at i under ∙ is_in))

-- two rows below one bound with the same bytes are one
pub same_from_bytes : (a b : List Bool) → length a ≡ length b → ((at : ℕ) → 8 * at < length a → byte_of a at ≡ byte_of b at) → a ≡ b
same_from_bytes a b bounds each =
    same_rows a b bounds (λ edge under. let at : 8 * (edge / 8) + edge % 8 ≡ edge = omega arith in let in_byte : edge % 8 < 8 = omega arith in let one : has a (8 * (edge / 8) + edge % 8) ≡ has b (8 * (edge / 8) + edge % 8) = sym (bit_of_byte a (edge / 8) (edge % 8) in_byte) ∙ ap (λ n. eqb (bit_at n (edge % 8)) 1) (each (edge / 8) (omega arith)) ∙ bit_of_byte b (edge / 8) (edge % 8) in_byte in ap (has a) (sym at) ∙ one ∙ ap (has b) at)
