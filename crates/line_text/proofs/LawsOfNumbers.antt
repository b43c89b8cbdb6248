-- Laws of decimal digits that are read from the left, for proofs here and above.
use Rattle.std.proofs.Common.{◌≡◌, ◌≢◌, ◌<◌, ◌+◌, ◌-◌, ◌*◌, ◌^◌, ℕ, List, [], ◌∷◌, true, false, ap, ◌∙◌, rules}
use Rattle.std.specs.Fmt.{decimal}
use Rattle.std.specs.Str.{all_ascii_digits}
use Rattle.std.proofs.lemmas.Str.Parse.{IsNumeralModel, numerals_by_fold}
use Rattle.std.proofs.lemmas.Fmt.{digits_decimal}

-- the number that more digits make of a number
abbrev pub read_on : ℕ → List ℕ → ℕ
read_on n [] = n
read_on n (c ∷ cs) = read_on (n * 10 + (c - 48)) cs

-- digits that are read on from 0 are numerals as the library's lemmas take them
pub read_on-numerals : IsNumeralModel (λ ds. all_ascii_digits ds ≡ true) (read_on 0)
read_on-numerals = numerals_by_fold _ (search rules) read_on (search rules)

-- bytes of which one is no digit are the decimal of no number
pub decimal-all_digits : (n : ℕ) (bs : List ℕ) → n < 2 ^ 64 → all_ascii_digits bs ≡ false → bs ≢ decimal n
decimal-all_digits n bs small other is =
    let digits : all_ascii_digits (decimal n) ≡ true = digits_decimal read_on-numerals n small in
    let same : all_ascii_digits bs ≡ true = ap all_ascii_digits is ∙ digits in
    cc
