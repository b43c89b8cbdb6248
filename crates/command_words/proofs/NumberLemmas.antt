-- The number that a word spells.
use Rattle.std.proofs.Common.{ℕ, zero, suc, List, Bool, true, false, Some, None, ◌≡◌, ◌≢◌, ◌<◌, ◌≤◌, ◌+◌, ◌^◌, ◌∙◌, refl, sym, arith, inl, inr}
use Rattle.std.specs.List.{find, range_with_len}
use Rattle.std.specs.Str.{bytes_eq, all_ascii_digits}
use Rattle.std.specs.Fmt.{decimal}
use Rattle.std.proofs.lemmas.Bool.{cases_lt, false_from_ne_true}
use Rattle.std.proofs.lemmas.Fmt.{decimal_injective}
use Rattle.std.proofs.lemmas.Slice.Eq.{bytes_eq-Decides}
use Rattle.line_text.proofs.LawsOfNumbers.{decimal-all_digits}
use Rattle.command_words.specs.Words.{workers_in, number_in}

-- ---- the first number of a row that passes a test

find-none : (p : ℕ → Bool) (a k : ℕ) → ((n : ℕ) → a ≤ n → n < a + k → p n ≡ false) → find p (range_with_len a k) ≡ None
find-none p a zero fails = refl
find-none p a (suc k) fails = rw (fails a (omega arith) (omega arith)) (find-none p (a + 1) k (λ n from to. fails n (omega arith) (omega arith)))

find-some : (p : ℕ → Bool) (a k n : ℕ) → a ≤ n → n < a + k → p n ≡ true → ((m : ℕ) → m < n → p m ≡ false) → find p (range_with_len a k) ≡ Some n
find-some p a zero n le lt hit fails = absurd (omega arith)
find-some p a (suc k) n le lt hit fails = elim (cases_lt a n) [
  | inl less ↦ rw (fails a less) (find-some p (a + 1) k n (omega arith) (omega arith) hit fails)
  | inr more ↦ let same : a ≡ n = omega arith in rw (same, hit) refl
]

-- ---- what a word spells

differs : (word : List ℕ) (n : ℕ) → word ≢ decimal n → bytes_eq word (decimal n) ≡ false
differs word n ne = false_from_ne_true (bytes_eq word (decimal n)) (λ e. ne ((bytes_eq-Decides word (decimal n)).0 e))

-- a text spells one number
other_number : (word : List ℕ) (m n : ℕ) → m < n → n < 2 ^ 64 → word ≡ decimal n → bytes_eq word (decimal m) ≡ false
other_number word m n less small is = differs word m (λ e. let same = decimal_injective m n (omega arith) (omega arith) (sym e ∙ is) in absurd (omega arith))

pub number_in-some : (word : List ℕ) (least count n : ℕ) → least ≤ n → n < least + count → least + count < 2 ^ 64 → word ≡ decimal n → number_in least count word ≡ Some n
unfolding number_in
number_in-some word least count n from to small is =
    find-some (λ n. bytes_eq word (decimal n)) least count n from to ((bytes_eq-Decides word (decimal n)).1 is) (λ m less. other_number word m n less (omega (arith, to, small)) is)

-- a text that spells no number as small
pub number_in-none : (word : List ℕ) (least count : ℕ) → ((n : ℕ) → n < least + count → word ≢ decimal n) → number_in least count word ≡ None
unfolding number_in
number_in-none word least count spells = find-none (λ n. bytes_eq word (decimal n)) least count (λ n from to. differs word n (spells n to))

-- a text that spells a smaller number
pub number_in-below : (word : List ℕ) (least count n : ℕ) → n < least → least + count < 2 ^ 64 → word ≡ decimal n → number_in least count word ≡ None
unfolding number_in
number_in-below word least count n less small is =
    find-none (λ n. bytes_eq word (decimal n)) least count (λ m from to. differs word m (λ e.
    let same = decimal_injective n m (omega arith) (omega (arith, to, small)) (sym is ∙ e) in absurd (omega (arith, same, from, less))))

-- a word with a byte that is no digit
pub no_digits : (word : List ℕ) → all_ascii_digits word ≡ false → workers_in word ≡ None
no_digits word other = number_in-none word 1 64 (λ n most. decimal-all_digits n word (omega arith) other)
