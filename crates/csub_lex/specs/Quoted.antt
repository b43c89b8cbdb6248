-- What stands between quotes, in character constants and strings (C11 6.4.4.4, 6.4.5).
use Rattle.std.specs.Prelude.{ℕ, ◌≡◌, ◌&&◌, ◌==◌, not, if◌then◌else◌, nat_le, List, [], ◌∷◌, Bool, true, Option, Some, None}
use Rattle.csub_lex.specs.Bytes.{Stops}
use Rattle.csub_lex.specs.Numbers.{is_digit_of}

-- a byte that stands for itself: one that can be printed, other than `\` and the quote
abbrev pub is_plain : ℕ → ℕ → Bool
is_plain quote b = nat_le 32 b && nat_le b 126 && not (b == 92) && not (b == quote)

-- what a `\` and this byte stand for (C11 6.4.4.4p3 to 5, 5.2.2): n t r a b f v \ ' " ? 0
abbrev pub escape_value : ℕ → Option ℕ
escape_value e =
    if e == 110 then Some 10 else (if e == 116 then Some 9 else (if e == 114 then Some 13 else (if e == 97 then Some 7 else (
    if e == 98 then Some 8 else (if e == 102 then Some 12 else (if e == 118 then Some 11 else (if e == 92 then Some 92 else (
    if e == 39 then Some 39 else (if e == 34 then Some 34 else (if e == 63 then Some 63 else (if e == 48 then Some 0 else None)))))))))))

-- the text between two such quotes and the bytes that it stands for; no octal digit follows `\0`
pub data Characters (quote : ℕ) : List ℕ → List ℕ → Type 0 where
  none : Characters quote [] []
  plain : (b : ℕ) (text bytes : List ℕ) → is_plain quote b ≡ true → Characters quote text bytes → Characters quote (b ∷ text) (b ∷ bytes)
  escape : (e value : ℕ) (text bytes : List ℕ) → escape_value e ≡ Some value → (e ≡ 48 → Stops (is_digit_of 8) text)
      → Characters quote text bytes → Characters quote (92 ∷ e ∷ text) (value ∷ bytes)
