-- The size of a row is the number of ones in its words.
use Rattle.std.proofs.Common.{◌≡◌, ◌<◌, ◌≤◌, ◌+◌, ◌-◌, ◌*◌, ◌/◌, ◌%◌, ◌^◌, ℕ, suc, Bool, false, cond, not, ◌&&◌, eqb, ◌⊎◌, inl, inr, List, [], ◌∷◌, map, length, get_or, take, drop, w64, count_ones, bit_and, refl, sym, ap, ◌∙◌, subst, arith, length-append}
use Rattle.std.specs.Int.{bit_at, bit_not}
use Rattle.std.specs.List.{range_with_len, flat_map, sum_by, zip}
use Rattle.std.proofs.lemmas.Bool.{cases_lt}
use Rattle.std.proofs.lemmas.List.{get_or_append_left, get_or-append_right, get_or-drop, length-map, get_or-map, get_or_past, map-id, take_all}
use Rattle.std.proofs.lemmas.List.FromFn.{length-map-range_with_len, get_or-map-range_with_len, take-map-range_with_len}
use Rattle.std.proofs.lemmas.List.Sums.{count_by-le-length, sum_by-append, sum_by-cons, sum_by-take-drop, sum_by_more, sum_by-take-le}
use Rattle.std.proofs.lemmas.Slice.Zip.{get_or-zip, length-zip}
use Rattle.std.proofs.lemmas.Nat.{and_le_l}
use Rattle.std.proofs.lemmas.Nat.Bits.{bit_at-zero, bit_at-lt, same_from_bits_below}
use Rattle.std.proofs.lemmas.Simd.{mask_l-lt, bit_mask_l, ones-mask_l}
use lib.Lanes.{mask_l}
use Rattle.edge_trace.specs.Rows.{has, size, below, difference}
use Rattle.edge_trace.specs.Words.{bit_of, row_of, bits_of, IsKept}
use Rattle.edge_trace.proofs.Laws.{same_rows, has_past, length-below, has-below, has-difference, length-difference}
use Rattle.edge_trace.proofs.BitLemmas.{bit_cases, beyond_test, length-row_of, has-row_of, has-bits_of}

-- ---- one word
-- the truth values of a word
unfoldable pub word_bits : ℕ → List Bool
word_bits word = map (λ i. eqb (bit_at word i) 1) (range_with_len 0 64)

length-word_bits : (word : ℕ) → length (word_bits word) ≡ 64
unfolding word_bits
length-word_bits word = length-map-range_with_len (λ i. eqb (bit_at word i) 1) 0 64

has-word_bits : (word i : ℕ) → i < 64 → get_or (word_bits word) i false ≡ eqb (bit_at word i) 1
unfolding word_bits
has-word_bits word i under = get_or-map-range_with_len (λ k. eqb (bit_at word k) 1) 0 64 i i false under (omega arith)

bit_test : (n : ℕ) → n < 2 → cond (eqb n 1) 1 0 ≡ n
bit_test n small = at (bit_cases n small)
  where
    at : (n ≡ 0) ⊎ (n ≡ 1) → cond (eqb n 1) 1 0 ≡ n
    at (inl zero) = rw zero refl
    at (inr one) = rw one refl

mask-word_bits : (word : ℕ) → word < 2 ^ 64 → mask_l (word_bits word) ≡ word
mask-word_bits word fits =
    same_from_bits_below 64 (mask_l (word_bits word)) word (subst (λ n. mask_l (word_bits word) < 2 ^ n) (length-word_bits word) (mask_l-lt (word_bits word))) fits (λ i under. bit_mask_l (word_bits word) i ∙ ap (λ t. cond t 1 0) (has-word_bits word i under) ∙ bit_test (bit_at word i) (bit_at-lt word i))

size-word_bits : (word : ℕ) → word < 2 ^ 64 → size (word_bits word) ≡ count_ones word
size-word_bits word fits =
    sym (ones-mask_l (λ t. t) (word_bits word)) ∙ ap (λ l. count_ones (mask_l l)) (map-id (word_bits word)) ∙ ap count_ones (mask-word_bits word fits)

-- ---- all words
abbrev flat : List ℕ → List Bool
flat words = flat_map word_bits words

length-flat : (words : List ℕ) → length (flat words) ≡ 64 * length words
length-flat [] = refl
length-flat (word ∷ words) =
    omega (arith, length-append (word_bits word) (flat words), length-word_bits word, length-flat words)

size-flat : (words : List ℕ) → ((k : ℕ) → get_or words k 0 < 2 ^ 64) → size (flat words) ≡ sum_by count_ones words
size-flat [] fit = refl
size-flat (word ∷ words) fit =
    sum_by-append (λ t. cond t 1 0) (word_bits word) (flat words) ∙ ap (λ n. n + size (flat words)) (size-word_bits word (fit 0)) ∙ ap (λ n. count_ones word + n) (size-flat words (λ k. fit (suc k))) ∙ sym (sum_by-cons count_ones word words)

has-flat : (words : List ℕ) (place : ℕ) → get_or (flat words) place false ≡ bit_of words place
has-flat [] place = sym (ap (λ n. eqb n 1) (bit_at-zero (place % 64)))
has-flat (word ∷ words) place = at (cases_lt place 64) (has-flat words (place - 64))
  where
    at : (place < 64) ⊎ (64 ≤ place) → get_or (flat words) (place - 64) false ≡ bit_of words (place - 64) → get_or (flat (word ∷ words)) place false ≡ bit_of (word ∷ words) place
    at (inl under) rest =
        let row : place / 64 ≡ 0 = omega arith in
        let column : place % 64 ≡ place = omega arith in
        get_or_append_left (word_bits word) (flat words) false place (omega (arith, length-word_bits word)) ∙ rw (row, column) (has-word_bits word place under)
    at (inr past) rest =
        let row : place / 64 ≡ suc ((place - 64) / 64) = omega arith in
        let column : place % 64 ≡ (place - 64) % 64 = omega arith in
        get_or-append_right (word_bits word) (flat words) 64 place false (length-word_bits word) past ∙ rest ∙ rw (row, column) refl

-- ---- all bits
bits_are_flat : (words : List ℕ) → bits_of words ≡ flat words
bits_are_flat words =
    same_rows (bits_of words) (flat words) (length-row_of (64 * length words) words ∙ sym (length-flat words)) (λ place under. has-bits_of words place ∙ sym (has-flat words place))

pub size-bits_of : (words : List ℕ) → ((k : ℕ) → get_or words k 0 < 2 ^ 64) → size (bits_of words) ≡ sum_by count_ones words
size-bits_of words fit = ap size (bits_are_flat words) ∙ size-flat words fit

-- ---- bits that are in one list of words and not in another
abbrev less : ℕ × ℕ → ℕ
less both = bit_and both.0 (bit_not w64 both.1)

abbrev less_words : List ℕ → List ℕ → List ℕ
less_words a b = map less (zip a b)

-- the ones of the first n words that the other words do not have
abbrev pub ones_beyond : ℕ → List ℕ → List ℕ → ℕ
ones_beyond n a b = sum_by count_ones (take n (less_words a b))

module _ (a b : List ℕ) (same : length a ≡ length b) (fit : (k : ℕ) → get_or a k 0 < 2 ^ 64) (fit' : (k : ℕ) → get_or b k 0 < 2 ^ 64) where
  length-less_words : length (less_words a b) ≡ length a
  length-less_words = length-map (zip a b) less ∙ omega (arith, length-zip a b)

  less_words_at : (k : ℕ) → k < length a → get_or (less_words a b) k 0 ≡ less (get_or a k 0, get_or b k 0)
  less_words_at k under =
      get_or-map less (zip a b) k (0, 0) 0 (omega (arith, length-zip a b)) ∙ ap less (get_or-zip a b k (0, 0) under (omega arith))

  less_words_fit : (k : ℕ) → get_or (less_words a b) k 0 < 2 ^ 64
  less_words_fit k = at (cases_lt k (length a))
    where
      at : (k < length a) ⊎ (length a ≤ k) → get_or (less_words a b) k 0 < 2 ^ 64
      at (inl under) =
          omega (arith, less_words_at k under, and_le_l (get_or a k 0) (bit_not w64 (get_or b k 0)), fit k)
      at (inr past) = omega (arith, get_or_past (less_words a b) k 0 (omega (arith, length-less_words)))

  less_words_bit : (place : ℕ) → bit_of (less_words a b) place ≡ (bit_of a place && not (bit_of b place))
  less_words_bit place = at (cases_lt (place / 64) (length a))
    where
      at : (place / 64 < length a) ⊎ (length a ≤ place / 64) → bit_of (less_words a b) place ≡ (bit_of a place && not (bit_of b place))
      at (inl under) =
          ap (λ w. eqb (bit_at w (place % 64)) 1) (less_words_at (place / 64) under) ∙ beyond_test (get_or a (place / 64) 0) (get_or b (place / 64) 0) (place % 64) (fit' (place / 64)) (omega arith)
      at (inr past) =
          rw (get_or_past (less_words a b) (place / 64) 0 (omega (arith, length-less_words)), get_or_past a (place / 64) 0 past, bit_at-zero (place % 64)) refl

  bits_of-less_words : bits_of (less_words a b) ≡ difference (bits_of a) (bits_of b)
  bits_of-less_words =
      same_rows (bits_of (less_words a b)) (difference (bits_of a) (bits_of b)) (length-row_of (64 * length (less_words a b)) (less_words a b) ∙ ap (λ n. 64 * n) length-less_words ∙ sym (length-difference (bits_of a) (bits_of b) ∙ length-row_of (64 * length a) a)) (λ place under. has-bits_of (less_words a b) place ∙ less_words_bit place ∙ sym (has-difference (bits_of a) (bits_of b) place ∙ ap (λ t. t && not (has (bits_of b) place)) (has-bits_of a place) ∙ ap (λ t. bit_of a place && not t) (has-bits_of b place)))

  size-difference : size (difference (bits_of a) (bits_of b)) ≡ sum_by count_ones (less_words a b)
  size-difference = ap size (sym bits_of-less_words) ∙ size-bits_of (less_words a b) less_words_fit

  pub ones_beyond-all : (n : ℕ) → length a ≤ n → ones_beyond n a b ≡ size (difference (bits_of a) (bits_of b))
  ones_beyond-all n whole =
      ap (sum_by count_ones) (take_all n (less_words a b) (omega (arith, length-less_words))) ∙ sym size-difference

  pub ones_beyond-more : (n : ℕ) → n < length a → ones_beyond (n + 1) a b ≡ ones_beyond n a b + count_ones (bit_and (get_or a n 0) (bit_not w64 (get_or b n 0)))
  ones_beyond-more n under =
      sum_by_more count_ones (less_words a b) n 0 (omega (arith, length-less_words)) ∙ ap (λ w. ones_beyond n a b + count_ones w) (less_words_at n under)

  pub ones_beyond-le : (n : ℕ) → n < length a → ones_beyond n a b + count_ones (bit_and (get_or a n 0) (bit_not w64 (get_or b n 0))) ≤ size (difference (bits_of a) (bits_of b))
  ones_beyond-le n under =
      omega (arith, ones_beyond-more n under, sum_by-take-le count_ones (less_words a b) (n + 1), size-difference)

-- ---- from all bits to those below the bound
size_none : (row : List Bool) → ((place : ℕ) → has row place ≡ false) → size row ≡ 0
size_none [] none = refl
size_none (t ∷ row) none =
    sum_by-cons (λ is_in. cond is_in 1 0) t row ∙ ap (λ first. cond first 1 0 + size row) (none 0) ∙ ap (λ n. 0 + n) (size_none row (λ place. none (suc place)))

take-below : (m n : ℕ) (test : ℕ → Bool) → m ≤ n → take m (below n test) ≡ below m test
unfolding below
take-below m n test room = take-map-range_with_len test 0 n m room

-- numbers that fail the test count nothing
size-below : (m n : ℕ) (test : ℕ → Bool) → m ≤ n → ((place : ℕ) → m ≤ place → test place ≡ false) → size (below n test) ≡ size (below m test)
size-below m n test room fails =
    let rest : size (drop m (below n test)) ≡ 0 = size_none (drop m (below n test)) (λ place. get_or-drop m (below n test) place false ∙ at place (cases_lt (m + place) n)) in
    let parts : size (take m (below n test)) + size (drop m (below n test)) ≡ size (below n test) = sum_by-take-drop (λ t. cond t 1 0) (below n test) m in
    omega (arith, parts, rest) ∙ ap size (take-below m n test room)
  where
    at : (place : ℕ) → (m + place < n) ⊎ (n ≤ m + place) → has (below n test) (m + place) ≡ false
    at place (inl under) = has-below n test (m + place) under ∙ fails (m + place) (omega arith)
    at place (inr past) = has_past (below n test) (m + place) (omega (arith, length-below n test))

pub size-le-length : (row : List Bool) → size row ≤ length row
size-le-length row = count_by-le-length (λ t. t) row

-- ---- `count` and `beyond`
module _ (edges : ℕ) (words : List ℕ) (row : List Bool) (view : row_of edges words ≡ row) (kept : IsKept edges words) where
  room : edges ≤ 64 * length words
  room = omega (arith, kept.enough)

  small_row : length row < 2 ^ 32
  small_row = omega (arith, ap length view, length-row_of edges words, kept.small)

  pub count_is : size (bits_of words) ≡ size row
  count_is = size-below edges (64 * length words) (bit_of words) room kept.clear ∙ ap size view

  pub count_fits : size (bits_of words) < 2 ^ 32
  count_fits = omega (arith, count_is, size-le-length row, small_row)

  module _ (edges' : ℕ) (words' : List ℕ) (row' : List Bool) (view' : row_of edges' words' ≡ row') (kept' : IsKept edges' words') (bounds : length row ≡ length row') where
    abbrev test : ℕ → Bool
    test place = bit_of words place && not (bit_of words' place)

    difference_is : (bound : ℕ) (a b : List Bool) → length a ≡ bound → ((place : ℕ) → has a place ≡ bit_of words place) → ((place : ℕ) → has b place ≡ bit_of words' place) → difference a b ≡ below bound test
    difference_is bound a b long in_a in_b =
        same_rows (difference a b) (below bound test) (length-difference a b ∙ long ∙ sym (length-below bound test)) (λ place under. has-difference a b place ∙ ap (λ t. t && not (has b place)) (in_a place) ∙ ap (λ t. bit_of words place && not t) (in_b place) ∙ sym (has-below bound test place (omega (arith, length-difference a b))))

    in_row : (place : ℕ) → has row place ≡ bit_of words place
    in_row place = ap (λ r. has r place) (sym view) ∙ has-row_of edges words kept place

    in_row' : (place : ℕ) → has row' place ≡ bit_of words' place
    in_row' place = ap (λ r. has r place) (sym view') ∙ has-row_of edges' words' kept' place

    pub beyond_is : size (difference (bits_of words) (bits_of words')) ≡ size (difference row row')
    beyond_is =
        ap size (difference_is (64 * length words) (bits_of words) (bits_of words') (length-row_of (64 * length words) words) (has-bits_of words) (has-bits_of words')) ∙ size-below edges (64 * length words) test room (λ place past. ap (λ t. t && not (bit_of words' place)) (kept.clear place past)) ∙ ap size (sym (difference_is edges row row' (sym (ap length view) ∙ length-row_of edges words) in_row in_row'))

    pub beyond_fits : size (difference (bits_of words) (bits_of words')) < 2 ^ 32
    beyond_fits =
        omega (arith, beyond_is, size-le-length (difference row row'), length-difference row row', small_row)
