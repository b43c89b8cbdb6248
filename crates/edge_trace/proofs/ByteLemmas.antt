-- The byte of a row that the code cuts out of a word.
use Rattle.std.proofs.Common.{◌≡◌, ◌<◌, ◌+◌, ◌*◌, ◌/◌, ◌%◌, ◌^◌, ℕ, eqb, List, get_or, refl, sym, ap, ◌∙◌, bit_and, arith, Bool}
use Rattle.std.specs.Int.{bit_at}
use Rattle.std.proofs.lemmas.Nat.{mod_below, shr-shr, shr_split, and_mask}
use Rattle.std.proofs.lemmas.Nat.Bits.{bit_at_cat_low}
use Rattle.edge_trace.specs.Rows.{has, byte_of}
use Rattle.edge_trace.specs.Words.{bit_of, row_of, IsKept}
use Rattle.edge_trace.proofs.BitLemmas.{has-row_of}
use Rattle.edge_trace.proofs.LawsOfBytes.{byte_from_bits}

bit_of_low : (n k i : ℕ) → i < k → bit_at (n % 2 ^ k) i ≡ bit_at n i
bit_of_low n k i under =
    sym (bit_at_cat_low (n / 2 ^ k) k (n % 2 ^ k) i under) ∙ ap (λ m. bit_at m i) (shr_split n k)

bit_of_shifted : (n k i : ℕ) → bit_at (n / 2 ^ k) i ≡ bit_at n (k + i)
bit_of_shifted n k i = ap (λ m. m % 2) (shr-shr n k i)

byte_of_word : (edges : ℕ) (words : List ℕ) (row : List Bool) → row_of edges words ≡ row → IsKept edges words → (at : ℕ) → byte_of row at ≡ get_or words (at / 8) 0 / 2 ^ (8 * (at % 8)) % 2 ^ 8
byte_of_word edges words row view kept at =
    byte_from_bits row at (get_or words (at / 8) 0 / 2 ^ (8 * (at % 8)) % 2 ^ 8) (mod_below (get_or words (at / 8) 0 / 2 ^ (8 * (at % 8))) 256 (omega arith)) (λ i under. let word : (8 * at + i) / 64 ≡ at / 8 = omega arith in let bit : (8 * at + i) % 64 ≡ 8 * (at % 8) + i = omega arith in let there : bit_of words (8 * at + i) ≡ eqb (bit_at (get_or words (at / 8) 0) (8 * (at % 8) + i)) 1 = rw (word, bit) refl in ap (λ n. eqb n 1) (bit_of_low (get_or words (at / 8) 0 / 2 ^ (8 * (at % 8))) 8 i under ∙ bit_of_shifted (get_or words (at / 8) 0) (8 * (at % 8)) i) ∙ sym (ap (λ r. has r (8 * at + i)) (sym view) ∙ has-row_of edges words kept (8 * at + i) ∙ there))

pub byte_of_cut : (edges : ℕ) (words : List ℕ) (row : List Bool) → row_of edges words ≡ row → IsKept edges words → (at word : ℕ) → word ≡ get_or words (at / 8) 0 → bit_and (word / 2 ^ (8 * (at % 8))) 255 ≡ byte_of row at
byte_of_cut edges words row view kept at word read =
    and_mask (word / 2 ^ (8 * (at % 8))) 8 ∙ ap (λ w. w / 2 ^ (8 * (at % 8)) % 2 ^ 8) read ∙ sym (byte_of_word edges words row view kept at)
