-- Bits of words, and the rows that they stand for.
use Rattle.std.proofs.Common.{◌≡◌, ◌<◌, ◌≤◌, ◌-◌, ◌*◌, ◌/◌, ◌%◌, ◌^◌, ℕ, Bool, true, false, not, ◌&&◌, ◌||◌, eqb, ◌⊎◌, inl, inr, List, length, get_or, set, w64, min, max, refl, sym, ap, ◌∙◌, arith, get_or-set_same, get_or-set_other, bit_and, bit_or, length-set, replicate, slice_index, Option, Some, None, IfSome, IfNone}
use Rattle.std.specs.Int.{bit_at, bit_not}
use Rattle.std.proofs.lemmas.Bool.{cases_eq, cases_lt}
use Rattle.std.proofs.lemmas.List.{get_or_past, get_or-replicate, length-replicate}
use Rattle.std.proofs.lemmas.Nat.Bits.{bit_at-zero, bit_at_set_same, bit_at_set_other, bit_at-lt, bit_at_and, bit_at_or, bit_at_not}
use Rattle.edge_trace.specs.Rows.{has, union, IsLeastCommon, NoneCommon}
use Rattle.edge_trace.specs.Words.{bit_of, row_of, bits_of, IsKept}
use Rattle.edge_trace.proofs.Laws.{same_rows, has_past, has-below, length-below, has-set_same, has-set_other, has-union, length-union, has-replicate}

-- a number below 2 is one of two
pub bit_cases : (n : ℕ) → n < 2 → (n ≡ 0) ⊎ (n ≡ 1)
bit_cases n small = at (cases_eq n 0)
  where
    at : (n ≡ 0) ⊎ (n ≡ 0 → ⊥) → (n ≡ 0) ⊎ (n ≡ 1)
    at (inl zero) = inl zero
    at (inr other) = inr (omega arith)

max_test : (m n : ℕ) → m < 2 → n < 2 → eqb (max m n) 1 ≡ (eqb m 1 || eqb n 1)
max_test m n p q = at (bit_cases m p) (bit_cases n q)
  where
    at : (m ≡ 0) ⊎ (m ≡ 1) → (n ≡ 0) ⊎ (n ≡ 1) → eqb (max m n) 1 ≡ (eqb m 1 || eqb n 1)
    at (inl a) (inl b) = rw (a, b) refl
    at (inl a) (inr b) = rw (a, b) refl
    at (inr a) (inl b) = rw (a, b) refl
    at (inr a) (inr b) = rw (a, b) refl

min_test : (m n : ℕ) → m < 2 → n < 2 → eqb (min m n) 1 ≡ (eqb m 1 && eqb n 1)
min_test m n p q = at (bit_cases m p) (bit_cases n q)
  where
    at : (m ≡ 0) ⊎ (m ≡ 1) → (n ≡ 0) ⊎ (n ≡ 1) → eqb (min m n) 1 ≡ (eqb m 1 && eqb n 1)
    at (inl a) (inl b) = rw (a, b) refl
    at (inl a) (inr b) = rw (a, b) refl
    at (inr a) (inl b) = rw (a, b) refl
    at (inr a) (inr b) = rw (a, b) refl

not_test : (n : ℕ) → n < 2 → eqb (1 - n) 1 ≡ not (eqb n 1)
not_test n p = at (bit_cases n p)
  where
    at : (n ≡ 0) ⊎ (n ≡ 1) → eqb (1 - n) 1 ≡ not (eqb n 1)
    at (inl a) = rw a refl
    at (inr a) = rw a refl

-- ---- bits of two words
pub or_test : (a b i : ℕ) → eqb (bit_at (bit_or a b) i) 1 ≡ (eqb (bit_at a i) 1 || eqb (bit_at b i) 1)
or_test a b i =
    ap (λ n. eqb n 1) (bit_at_or a b i) ∙ max_test (bit_at a i) (bit_at b i) (bit_at-lt a i) (bit_at-lt b i)

pub and_test : (a b i : ℕ) → eqb (bit_at (bit_and a b) i) 1 ≡ (eqb (bit_at a i) 1 && eqb (bit_at b i) 1)
and_test a b i =
    ap (λ n. eqb n 1) (bit_at_and a b i) ∙ min_test (bit_at a i) (bit_at b i) (bit_at-lt a i) (bit_at-lt b i)

pub beyond_test : (a b i : ℕ) → b < 2 ^ 64 → i < 64 → eqb (bit_at (bit_and a (bit_not w64 b)) i) 1 ≡ (eqb (bit_at a i) 1 && not (eqb (bit_at b i) 1))
beyond_test a b i fits in_bits =
    and_test a (bit_not w64 b) i ∙ ap (λ t. eqb (bit_at a i) 1 && t) (ap (λ n. eqb n 1) (bit_at_not w64 b i fits in_bits) ∙ not_test (bit_at b i) (bit_at-lt b i))

-- ---- one bit is set
module _ (words : List ℕ) (place : ℕ) (within : place < 64 * length words) where
  abbrev word : ℕ
  word = bit_or (get_or words (place / 64) 0) (1 * 2 ^ (place % 64) % 18446744073709551616)

  at_word : place / 64 < length words
  at_word = omega arith

  at_bit : place % 64 < 64
  at_bit = omega arith

  pub set_same : bit_of (set words (place / 64) (bit_or (get_or words (place / 64) 0) (1 * 2 ^ (place % 64) % 18446744073709551616))) place ≡ true
  set_same =
      ap (λ w. eqb (bit_at w (place % 64)) 1) (get_or-set_same words (place / 64) word 0 at_word) ∙ ap (λ n. eqb n 1) (bit_at_set_same w64 (get_or words (place / 64) 0) (place % 64) at_bit)

  pub set_others : (other : ℕ) → (other ≡ place → ⊥) → bit_of (set words (place / 64) (bit_or (get_or words (place / 64) 0) (1 * 2 ^ (place % 64) % 18446744073709551616))) other ≡ bit_of words other
  set_others other apart = at (cases_eq (other / 64) (place / 64))
    where
      at : (other / 64 ≡ place / 64) ⊎ (other / 64 ≡ place / 64 → ⊥) → bit_of (set words (place / 64) word) other ≡ bit_of words other
      at (inl same) =
          let differs : other % 64 ≡ place % 64 → ⊥ = λ e. apart (omega (arith, e, same)) in
          let read : get_or (set words (place / 64) word) (other / 64) 0 ≡ word = ap (λ n. get_or (set words (place / 64) word) n 0) same ∙ get_or-set_same words (place / 64) word 0 at_word in
          ap (λ w. eqb (bit_at w (other % 64)) 1) read ∙ ap (λ n. eqb n 1) (bit_at_set_other w64 (get_or words (place / 64) 0) (place % 64) at_bit (other % 64) differs) ∙ ap (λ n. eqb (bit_at (get_or words n 0) (other % 64)) 1) (sym same)
      at (inr differs) = ap (λ w. eqb (bit_at w (other % 64)) 1) (get_or-set_other words (place / 64) (other / 64) word 0 differs)

-- ---- rows and their words
pub length-row_of : (edges : ℕ) (words : List ℕ) → length (row_of edges words) ≡ edges
length-row_of edges words = length-below edges (bit_of words)

pub has-row_of : (edges : ℕ) (words : List ℕ) → IsKept edges words → (place : ℕ) → has (row_of edges words) place ≡ bit_of words place
has-row_of edges words kept place = at (cases_lt place edges)
  where
    at : (place < edges) ⊎ (edges ≤ place) → has (row_of edges words) place ≡ bit_of words place
    at (inl under) = has-below edges (bit_of words) place under
    at (inr past) = has_past (row_of edges words) place (omega (arith, length-row_of edges words)) ∙ sym (kept.clear place past)

-- a number below the bound is the place of a bit
pub in_words : (edges : ℕ) (words : List ℕ) (row : List Bool) → row_of edges words ≡ row → IsKept edges words → (place : ℕ) → place < length row → place < 64 * length words
in_words edges words row view kept place under =
    omega (arith, ap length view, length-row_of edges words, kept.enough)

-- all bits
pub has-bits_of : (words : List ℕ) (place : ℕ) → has (bits_of words) place ≡ bit_of words place
has-bits_of words place = at (cases_lt place (64 * length words))
  where
    at : (place < 64 * length words) ⊎ (64 * length words ≤ place) → has (bits_of words) place ≡ bit_of words place
    at (inl under) = has-below (64 * length words) (bit_of words) place under
    at (inr past) =
        has_past (bits_of words) place (omega (arith, length-row_of (64 * length words) words)) ∙ sym (ap (λ w. eqb (bit_at w (place % 64)) 1) (get_or_past words (place / 64) 0 (omega arith)) ∙ ap (λ n. eqb n 1) (bit_at-zero (place % 64)))

-- ---- `set`
module _ (edges : ℕ) (words words' : List ℕ) (row : List Bool) (place : ℕ) (view : row_of edges words ≡ row) (kept : IsKept edges words) (under : place < length row) (others : (other : ℕ) → (other ≡ place → ⊥) → bit_of words' other ≡ bit_of words other) where
  below_edges : place < edges
  below_edges = omega (arith, ap length view, length-row_of edges words)

  pub kept-set : length words' ≡ length words → IsKept edges words'
  kept-set long = record {
    small = kept.small;
    enough = long ∙ kept.enough;
    clear = λ other past. others other (λ e. absurd (omega (arith, below_edges))) ∙ kept.clear other past;
  }

  pub row-set : bit_of words' place ≡ true → row_of edges words' ≡ set row place true
  row-set same =
      same_rows (row_of edges words') (set row place true) (length-row_of edges words' ∙ sym (length-set row place true ∙ sym (ap length view) ∙ length-row_of edges words)) (λ other within. let inside : other < edges = omega (arith, length-row_of edges words') in has-below edges (bit_of words') other inside ∙ at other inside (cases_eq other place))
    where
      at : (other : ℕ) → other < edges → (other ≡ place) ⊎ (other ≡ place → ⊥) → bit_of words' other ≡ has (set row place true) other
      at other inside (inl e) = ap (bit_of words') e ∙ same ∙ sym (ap (has (set row place true)) e ∙ has-set_same row place under)
      at other inside (inr apart) =
          others other apart ∙ sym (has-set_other row place other apart ∙ ap (λ r. has r other) (sym view) ∙ has-below edges (bit_of words) other inside)

-- ---- `join`
module _ (edges edges' : ℕ) (words others : List ℕ) (row other : List Bool) (view : row_of edges words ≡ row) (view' : row_of edges' others ≡ other) (kept : IsKept edges words) (kept' : IsKept edges' others) (bounds : length row ≡ length other) where
  same_edges : edges ≡ edges'
  same_edges =
      omega (arith, ap length view, ap length view', length-row_of edges words, length-row_of edges' others)

  pub same_length : length words ≡ length others
  same_length = omega (arith, kept.enough, kept'.enough, same_edges)

  module _ (words' : List ℕ) (either : (place : ℕ) → bit_of words' place ≡ (bit_of words place || bit_of others place)) where
    pub kept-join : length words' ≡ length words → IsKept edges words'
    kept-join long = record {
      small = kept.small;
      enough = long ∙ kept.enough;
      clear = λ place past. either place ∙ rw (kept.clear place past, kept'.clear place (omega (arith, same_edges))) refl;
    }

    pub row-join : length words' ≡ length words → row_of edges words' ≡ union row other
    row-join long =
        same_rows (row_of edges words') (union row other) (length-row_of edges words' ∙ sym (length-union row other ∙ sym (ap length view) ∙ length-row_of edges words)) (λ place within. has-row_of edges words' (kept-join long) place ∙ either place ∙ sym (has-union row other bounds place ∙ ap (λ t. t || has other place) (ap (λ r. has r place) (sym view) ∙ has-row_of edges words kept place) ∙ ap (λ t. bit_of words place || t) (ap (λ r. has r place) (sym view') ∙ has-row_of edges' others kept' place)))

  -- ---- `meets`
  bit_in : (place : ℕ) → has (bits_of words) place ≡ has row place
  bit_in place =
      has-bits_of words place ∙ sym (ap (λ r. has r place) (sym view) ∙ has-row_of edges words kept place)

  bit_in_other : (place : ℕ) → has (bits_of others) place ≡ has other place
  bit_in_other place =
      has-bits_of others place ∙ sym (ap (λ r. has r place) (sym view') ∙ has-row_of edges' others kept' place)

  pub least_common : (found : Option ℕ) → IfSome found (IsLeastCommon (bits_of words) (bits_of others)) → IfSome found (IsLeastCommon row other)
  least_common None h = tt
  least_common (Some place) h = record {
    first = sym (bit_in place) ∙ h.first;
    second = sym (bit_in_other place) ∙ h.second;
    least = λ d under one two. h.least d under (bit_in d ∙ one) (bit_in_other d ∙ two);
  }

  pub none_common : (found : Option ℕ) → IfNone found (NoneCommon (bits_of words) (bits_of others)) → IfNone found (NoneCommon row other)
  none_common (Some place) h = tt
  none_common None h = λ place one two. h place (bit_in place ∙ one) (bit_in_other place ∙ two)

-- ---- `new`
zero_word : (n k : ℕ) → slice_index (replicate n 0) k ≡ 0
zero_word n k = at (cases_lt k n)
  where
    at : (k < n) ⊎ (n ≤ k) → slice_index (replicate n 0) k ≡ 0
    at (inl under) = get_or-replicate n k 0 0 under
    at (inr past) = get_or_past (replicate n 0) k 0 (omega (arith, length-replicate {A = ℕ} n 0))

pub row-new : (edges n : ℕ) (words : List ℕ) → words ≡ replicate n 0 → row_of edges words ≡ replicate edges false
row-new edges n words zeros =
    same_rows (row_of edges words) (replicate edges false) (length-row_of edges words ∙ sym (length-replicate edges false)) (λ place under. has-below edges (bit_of words) place (omega (arith, length-row_of edges words)) ∙ ap (λ ws. bit_of ws place) zeros ∙ ap (λ w. eqb (bit_at w (place % 64)) 1) (zero_word n (place / 64)) ∙ ap (λ m. eqb m 1) (bit_at-zero (place % 64)) ∙ sym (has-replicate edges place))
