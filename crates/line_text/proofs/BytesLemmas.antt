-- `-` or hexadecimal digits.
use Rattle.std.proofs.Common.{◌≡◌, ◌≢◌, ◌<◌, ℕ, List, [], ◌∷◌, length, codes, Option, Some, None, Result, Ok, Err, MatchOption, ap, arith}
use Rattle.std.specs.Prelude.{IfOk}
use Rattle.hex.specs.Hex.{encode_lower, lower_digits, IsBytes}
use Rattle.hex.proofs.HexLemmas.{length-encode_with}
use Rattle.line_text.specs.Bytes.{bytes_or_dash}

-- the word for bytes is never empty
pub bytes_or_dash-nonempty : (bytes : List ℕ) → 0 < length (bytes_or_dash bytes)
bytes_or_dash-nonempty [] = omega arith
bytes_or_dash-nonempty (b ∷ more) = omega (arith, length-encode_with lower_digits (b ∷ more))

-- other than `-` it is the digits
other_word : (text bytes : List ℕ) → text ≢ codes "-" → text ≡ bytes_or_dash bytes → text ≡ encode_lower bytes
other_word text [] other is = absurd (other is)
other_word text (b ∷ more) other is = is

digits_word : (text bytes : List ℕ) → 0 < length text → text ≡ encode_lower bytes → text ≡ bytes_or_dash bytes
digits_word text [] some is = absurd (omega (arith, ap length is, length-encode_with lower_digits []))
digits_word text (b ∷ more) some is = is

-- what was read of the digits holds of the word
pub word_of_digits : {V E : Type 0} (items : V → List ℕ) (text : List ℕ) (r : Result (Option V) E) → text ≢ codes "-" → 0 < length text
    → IfOk r (λ found. MatchOption found ((bytes : List ℕ) → IsBytes bytes → text ≢ encode_lower bytes) (λ v. text ≡ encode_lower (items v)))
    → IfOk r (λ found. MatchOption found ((bytes : List ℕ) → IsBytes bytes → text ≢ bytes_or_dash bytes) (λ v. text ≡ bytes_or_dash (items v)))
word_of_digits items text (Err e) other some read = read
word_of_digits items text (Ok None) other some read = λ bytes h is. read bytes h (other_word text bytes other is)
word_of_digits items text (Ok (Some v)) other some read = digits_word text (items v) some read
