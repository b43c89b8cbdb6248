-- The digits of a number, read from the left.
use Rattle.std.proofs.Common.{◌&&◌, suc, ◌≡◌, ◌≢◌, ◌<◌, ◌≤◌, ◌+◌, ◌-◌, ◌*◌, ◌^◌, ℕ, List, [], ◌∷◌, true, false, length, drop, get_or, refl, sym, ap, ◌∙◌, add-one, arith, inl, inr, ℤ, pos, negsuc}
use Rattle.std.specs.Fmt.{decimal, signed_decimal}
use Rattle.std.specs.Int.{w64}
use Rattle.std.specs.Prelude.{FitsSigned}
use Rattle.std.proofs.lemmas.Int.{ints}
use Rattle.std.specs.Char.{is_ascii_digit}
use Rattle.std.specs.Str.{all_ascii_digits}
use Rattle.std.proofs.Math.Seq.{drop-cons}
use Rattle.std.proofs.Math.ListN.{drop_of_length-le}
use Rattle.std.proofs.lemmas.Bool.{cases_lt}
use Rattle.std.proofs.lemmas.Fmt.{decimal_nonempty, first_decimal, decimal_digit, digits_value-decimal, decimal-digits_value, decimal_injective}
use Rattle.line_text.proofs.LawsOfNumbers.{read_on, read_on-numerals, decimal-all_digits}

-- what no number's digits are
pub decimal-not_empty : (n : ℕ) (bs : List ℕ) → n < 2 ^ 64 → length bs ≡ 0 → bs ≢ decimal n
decimal-not_empty n bs small e is = omega (arith, decimal_nonempty n (omega arith), ap length is)

pub decimal-no_zero : (n : ℕ) (bs : List ℕ) → n < 2 ^ 64 → 1 < length bs → get_or bs 0 0 ≡ 48 → bs ≢ decimal n
decimal-no_zero n bs small two zero is = elim (cases_lt 0 n) [
  | inl more ↦ omega (arith, first_decimal n more small, ap (λ ds. get_or ds 0 0) is, zero)
  | inr none ↦ omega (arith, ap length (decimal_digit n (omega arith)), ap length is)
]

pub decimal-not_above : (n most : ℕ) (bs : List ℕ) → n < 2 ^ 64 → n ≤ most → most < read_on 0 bs → bs ≢ decimal n
decimal-not_above n most bs small within above is = omega (arith, ap (read_on 0) is, digits_value-decimal read_on-numerals n small)

pub decimal-read_on : (bs : List ℕ) → all_ascii_digits bs ≡ true → 0 < length bs → (get_or bs 0 0 ≡ 48 → length bs ≡ 1) → read_on 0 bs < 2 ^ 64 → bs ≡ decimal (read_on 0 bs)
decimal-read_on bs digits some plain small = sym (decimal-digits_value read_on-numerals bs digits some plain small)

-- one more digit
pub read_on-drop : (n i : ℕ) (bs : List ℕ) → i < length bs → read_on n (drop i bs) ≡ read_on (n * 10 + (get_or bs i 0 - 48)) (drop (i + 1) bs)
read_on-drop n i bs h = ap (read_on n) (drop-cons bs i 0 h) ∙ rw add-one refl

-- more digits never make a number less
read_on-ge : (n : ℕ) (bs : List ℕ) → n ≤ read_on n bs
read_on-ge n [] = omega arith
read_on-ge n (c ∷ cs) = let more = read_on-ge (n * 10 + (c - 48)) cs in omega arith

-- a number that does not fit in 64 bits stays one that does not
pub read_on-past : (n i : ℕ) (bs : List ℕ) → i < length bs → read_on n (drop i bs) ≡ read_on 0 bs → 2 ^ 64 ≤ n * 10 + (get_or bs i 0 - 48) → 2 ^ 64 ≤ read_on 0 bs
read_on-past n i bs h same past =
    let step = read_on-drop n i bs h in
    let more = read_on-ge (n * 10 + (get_or bs i 0 - 48)) (drop (i + 1) bs) in
    omega arith

pub all_ascii_digits-drop : (i : ℕ) (bs : List ℕ) → i < length bs → is_ascii_digit (get_or bs i 0) ≡ false → all_ascii_digits (drop i bs) ≡ false
all_ascii_digits-drop i bs h other = ap all_ascii_digits (drop-cons bs i 0 h) ∙ ap (λ b. b && all_ascii_digits (drop (suc i) bs)) other

-- at the end every byte is a digit, and the value is the number
pub end_digits : (i : ℕ) (bs : List ℕ) → length bs ≤ i → all_ascii_digits (drop i bs) ≡ all_ascii_digits bs → all_ascii_digits bs ≡ true
end_digits i bs h same = sym same ∙ ap all_ascii_digits (drop_of_length-le bs h)

pub end_number : (value i : ℕ) (bs : List ℕ) → length bs ≤ i → read_on value (drop i bs) ≡ read_on 0 bs → read_on 0 bs ≡ value
end_number value i bs h same = sym same ∙ ap (read_on value) (drop_of_length-le bs h)

-- ---- a text that begins with `-`

-- it is no number's digits
minus-not_decimal : (digits : List ℕ) (n : ℕ) → n < 2 ^ 64 → 45 ∷ digits ≢ decimal n
minus-not_decimal digits n small = decimal-all_digits n (45 ∷ digits) small refl

tail_of : List ℕ → List ℕ
tail_of [] = []
tail_of (x ∷ xs) = xs

-- where what follows is no number's digits either, it is no signed number
pub minus-refused : (text digits : List ℕ) (z : ℤ) → text ≡ 45 ∷ digits → ((n : ℕ) → n ≤ 2 ^ 63 → digits ≢ decimal n) → FitsSigned w64 z → text ≢ signed_decimal z
minus-refused text digits (pos n) front other fits is = minus-not_decimal digits n (omega (arith, ints)) (sym front ∙ is)
minus-refused text digits (negsuc n) front other fits is = other (suc n) (omega (arith, ints)) (cc (sym front ∙ is))

-- `-0` is no signed number
pub minus_zero-refused : (text digits : List ℕ) (m : ℕ) (z : ℤ) → text ≡ 45 ∷ digits → digits ≡ decimal m → m ≡ 0 → FitsSigned w64 z → text ≢ signed_decimal z
minus_zero-refused text digits m (pos n) front zero none fits is = minus-not_decimal digits n (omega (arith, ints)) (sym front ∙ is)
minus_zero-refused text digits m (negsuc n) front zero none fits is =
    let same : decimal m ≡ decimal (suc n) = sym zero ∙ cc (sym front ∙ is) in
    omega (arith, decimal_injective m (suc n) (omega arith) (omega (arith, ints)) same)
