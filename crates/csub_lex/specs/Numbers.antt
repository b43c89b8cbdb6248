-- Numbers: C11 6.4.4.1, with the suffix `u` or `U` alone.
use Rattle.std.specs.Prelude.{ℕ, ◌≡◌, ◌≤◌, ◌+◌, ◌*◌, ◌-◌, ◌||◌, ◌&&◌, ◌==◌, if◌then◌else◌, nat_le, nat_lt}
use Rattle.std.specs.Prelude.{List, [], ◌∷◌, ◌++◌, Bool, true, false}
use Rattle.std.specs.List.{fold}
use Rattle.std.specs.Char.{is_ascii_digit}
use Rattle.csub_lex.specs.Bytes.{Run}

-- the value of a digit, up to hexadecimal (C11 6.4.4.1p1), and 16 for a byte that is no digit
abbrev pub digit_value : ℕ → ℕ
digit_value b =
    if is_ascii_digit b then b - 48 else (
    if nat_le 97 b && nat_le b 102 then b - 87 else (
    if nat_le 65 b && nat_le b 70 then b - 55 else 16))

abbrev pub is_digit_of : ℕ → ℕ → Bool
is_digit_of base b = nat_lt (digit_value b) base

-- the value of digits in a base (C11 6.4.4.1p4)
abbrev pub value_in : ℕ → List ℕ → ℕ
value_in base digits = fold (λ n b. n * base + digit_value b) 0 digits

-- `u` or `U`
abbrev pub is_suffix : ℕ → Bool
is_suffix b = b == 117 || b == 85

-- digits of the base with at most one suffix, their value, and whether the suffix stands
pub data InBase (base : ℕ) : List ℕ → ℕ → Bool → Type 0 where
  plain : (digits : List ℕ) → Run (is_digit_of base) digits → InBase base digits (value_in base digits) false
  suffixed : (digits : List ℕ) (u : ℕ) → Run (is_digit_of base) digits → is_suffix u ≡ true
      → InBase base (digits ++ u ∷ []) (value_in base digits) true

-- a number, its value, and whether the suffix stands: it fits an `unsigned int`, and a decimal one without suffix an `int`
pub data Number : List ℕ → ℕ → Bool → Type 0 where
  decimal : (d : ℕ) (more : List ℕ) (value : ℕ) (unsigned : Bool) → (d ≡ 48 → ⊥) → is_digit_of 10 d ≡ true
      → InBase 10 (d ∷ more) value unsigned → value ≤ 4294967295 → (unsigned ≡ false → value ≤ 2147483647)
      → Number (d ∷ more) value unsigned
  octal : (more : List ℕ) (value : ℕ) (unsigned : Bool) → InBase 8 more value unsigned → value ≤ 4294967295
      → Number (48 ∷ more) value unsigned
  hexadecimal : (x d : ℕ) (more : List ℕ) (value : ℕ) (unsigned : Bool) → (x == 120 || x == 88) ≡ true → is_digit_of 16 d ≡ true
      → InBase 16 (d ∷ more) value unsigned → value ≤ 4294967295 → Number (48 ∷ x ∷ d ∷ more) value unsigned
