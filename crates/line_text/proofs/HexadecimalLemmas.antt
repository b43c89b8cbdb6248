-- Hexadecimal texts in lower case.
use Rattle.std.proofs.Common.{◌≡◌, ◌≢◌, ℕ, zero, suc, ◌+◌, ◌*◌, ◌/◌, ◌%◌, ◌<◌, ◌≤◌, eqb, ltb, Bool, true, false, not, ◌&&◌, ◌||◌, List, [], ◌∷◌, ◌++◌, length, drop, get_or, Option, Some, None, unwrap_or, Result, Ok, Err, MatchResult, refl, sym, ap, ◌∙◌, inl, inr, arith, append_assoc, append-nil, add-one}
use Rattle.std.proofs.Math.Seq.{drop-cons}
use Rattle.std.proofs.Math.ListN.{drop_of_length-le}
use Rattle.std.proofs.lemmas.Bool.{and_parts, cases_lt, eqb-true}
use Rattle.std.proofs.lemmas.List.Elements.{All-head, All-tail}
use Rattle.std.specs.Char.{is_ascii_uppercase}
use Rattle.std.specs.List.{AllPass, list_any}
use Rattle.std.specs.Result.{result_ok}
use Rattle.hex.specs.Hex.{encode_lower, encode_with, lower_digits, is_hex_digit, hex_digit_value, decode_of, decode_sized, IsBytes}
use Rattle.hex.specs.declared.error.FromHexError.{FromHexError}
use Rattle.hex.proofs.HexLemmas.{decode_of-encode_lower, decode_of-ok, decode_of-same, decode_sized-encode_lower, decode_sized-ok, decode_sized-twice}

-- ---- a test of each number below a bound

abbrev pub all_below : (ℕ → Bool) → ℕ → Bool
all_below test zero = true
all_below test (suc n) = test n && all_below test n

pub all_below-at : (test : ℕ → Bool) (n k : ℕ) → all_below test n ≡ true → k < n → test k ≡ true
all_below-at test zero k h lt = absurd (omega arith)
all_below-at test (suc n) k h lt =
    let parts = and_parts (test n) (all_below test n) h in
    elim (cases_lt k n) [
      | inl below ↦ all_below-at test n k parts.1 below
      | inr top ↦
          let e : k ≡ n = omega arith in
          rw e parts.0
    ]

-- ---- the digits that are written

-- no digit that is written is in upper case
abbrev is_no_upper : ℕ → Bool
is_no_upper d = not (is_ascii_uppercase (get_or lower_digits d 0))

not_true : (b : Bool) → not b ≡ true → b ≡ false
not_true true h = cc h
not_true false h = refl

lower_digit-no_upper : (d : ℕ) → d < 16 → is_ascii_uppercase (get_or lower_digits d 0) ≡ false
lower_digit-no_upper d lt = not_true _ (all_below-at is_no_upper 16 d refl lt)

pub no_upper-encode_lower : (bytes : List ℕ) → IsBytes bytes → list_any is_ascii_uppercase (encode_lower bytes) ≡ false
unfolding encode_with
no_upper-encode_lower [] h = refl
no_upper-encode_lower (b ∷ rest) h =
    let fits : b < 256 = h 0 in
    let high = lower_digit-no_upper (b / 16) (omega arith) in
    let low = lower_digit-no_upper (b % 16) (omega arith) in
    let more = no_upper-encode_lower rest (λ k. h (suc k)) in
    rw (high, low, more) refl

pub upper-not_encoded : (text bytes : List ℕ) → list_any is_ascii_uppercase text ≡ true → IsBytes bytes → text ≢ encode_lower bytes
upper-not_encoded text bytes upper h is =
    let other : list_any is_ascii_uppercase text ≡ false = ap (list_any is_ascii_uppercase) is ∙ no_upper-encode_lower bytes h in
    cc

-- ---- the digits that are read

-- a byte that is no digit, an upper-case letter, or the digit that is written for its value
abbrev reads_lower : ℕ → Bool
reads_lower c = not (is_hex_digit c) || is_ascii_uppercase c
    || ltb (unwrap_or (hex_digit_value c) 99) 16 && eqb (get_or lower_digits (unwrap_or (hex_digit_value c) 99) 0) c

digit-small : (c : ℕ) → is_hex_digit c ≡ true → c < 103
digit-small c h = grind arith

third_part : (a b c : Bool) → (not a || b || c) ≡ true → a ≡ true → b ≡ false → c ≡ true
third_part true true c h ha hb = cc hb
third_part true false c h ha hb = h
third_part false b c h ha hb = cc ha

ltb_below : (m n : ℕ) → ltb m n ≡ true → m < n
ltb_below m n h = grind arith

lower_digit : (c : ℕ) → is_hex_digit c ≡ true → is_ascii_uppercase c ≡ false → (v : ℕ) × (v < 16) × (get_or lower_digits v 0 ≡ c)
lower_digit c digit lower =
    let v = unwrap_or (hex_digit_value c) 99 in
    let test = third_part (is_hex_digit c) (is_ascii_uppercase c) (ltb v 16 && eqb (get_or lower_digits v 0) c) (all_below-at reads_lower 103 c refl (digit-small c digit)) digit lower in
    let parts = and_parts (ltb v 16) (eqb (get_or lower_digits v 0) c) test in
    (v, ltb_below v 16 parts.0, eqb-true (get_or lower_digits v 0) c parts.1)

or_parts : (a b : Bool) → (a || b) ≡ false → (a ≡ false) × (b ≡ false)
or_parts true b h = cc h
or_parts false b h = (refl, h)

IsBytes-cons : (b : ℕ) (rest : List ℕ) → b < 256 → IsBytes rest → IsBytes (b ∷ rest)
IsBytes-cons b rest h hs zero = h
IsBytes-cons b rest h hs (suc i) = hs i

-- pairs of lower-case digits are the text of some bytes
encoded_of_digits : (text : List ℕ) → length text % 2 ≡ 0 → AllPass is_hex_digit text → list_any is_ascii_uppercase text ≡ false
    → (bytes : List ℕ) × IsBytes bytes × (text ≡ encode_lower bytes)
unfolding encode_with
encoded_of_digits [] even digits lower = ([], (λ k. omega arith), refl)
encoded_of_digits (a ∷ []) even digits lower = absurd (omega arith)
encoded_of_digits (a ∷ b ∷ rest) even digits lower =
    let holds : ℕ → Type 0 = λ c. is_hex_digit c ≡ true in
    let tail = All-tail holds a (b ∷ rest) digits in
    let first = or_parts (is_ascii_uppercase a) (list_any is_ascii_uppercase (b ∷ rest)) lower in
    let second = or_parts (is_ascii_uppercase b) (list_any is_ascii_uppercase rest) first.1 in
    let high = lower_digit a (All-head holds a (b ∷ rest) digits) first.0 in
    let low = lower_digit b (All-head holds b rest tail) second.0 in
    let more = encoded_of_digits rest (omega arith) (All-tail holds b rest tail) second.1 in
    let byte : ℕ = high.0 * 16 + low.0 in
    let upper_half : byte / 16 ≡ high.0 = omega arith in
    let lower_half : byte % 16 ≡ low.0 = omega arith in
    (byte ∷ more.0, IsBytes-cons byte more.0 (omega arith) more.1, rw (upper_half, lower_half, high.2, low.2) (ap (λ r. a ∷ b ∷ r) more.2))

pub decoded_is : (text bytes : List ℕ) → list_any is_ascii_uppercase text ≡ false → decode_of text ≡ Ok bytes → text ≡ encode_lower bytes
decoded_is text bytes lower read =
    let ok = decode_of-ok text bytes read in
    let some = encoded_of_digits text ok.0 ok.1 lower in
    let again : decode_of text ≡ Ok some.0 = ap decode_of some.2 ∙ decode_of-encode_lower some.0 some.1 in
    some.2 ∙ ap encode_lower (decode_of-same text some.0 bytes again read)

pub refused-not_encoded : (text bytes : List ℕ) (e : FromHexError) → decode_of text ≡ Err e → IsBytes bytes → text ≢ encode_lower bytes
refused-not_encoded text bytes e refused h is =
    let back : decode_of text ≡ Ok bytes = ap decode_of is ∙ decode_of-encode_lower bytes h in
    cc

-- ---- a text that was decoded into room for n bytes

abbrev pub Decoded : Result (Unit {0}) FromHexError → List ℕ → List ℕ → ℕ → Type 0
Decoded r out text n = MatchResult (decode_sized text n) (λ bytes. (r ≡ Ok tt) × (out ≡ bytes)) (λ e. r ≡ Err e)

decoded_back : (r : Result (Unit {0}) FromHexError) (out text digest : List ℕ) (n : ℕ) → Decoded r out text n → length digest ≡ n → IsBytes digest → text ≡ encode_lower digest → r ≡ Ok tt
decoded_back r out text digest n h size bytes is =
    let back : decode_sized text n ≡ Ok digest = ap (λ t. decode_sized t n) is ∙ decode_sized-encode_lower digest n size bytes in
    (rw back at h).0

pub unsized-not_encoded : (r : Result (Unit {0}) FromHexError) (out text digest : List ℕ) (n : ℕ) → Decoded r out text n → result_ok r ≡ None → length digest ≡ n → IsBytes digest → text ≢ encode_lower digest
unsized-not_encoded r out text digest n h none size bytes is =
    let back = decoded_back r out text digest n h size bytes is in
    let some : ◌≡◌ {A = Option (Unit {0})} (Some tt) None = sym (ap result_ok back) ∙ none in
    cc

sized_value : (d : Result (List ℕ) FromHexError) (r : Result (Unit {0}) FromHexError) (out : List ℕ)
    → MatchResult d (λ bytes. (r ≡ Ok tt) × (out ≡ bytes)) (λ e. r ≡ Err e) → result_ok r ≡ Some tt → d ≡ Ok out
sized_value (Ok bytes) r out h some = ap Ok (sym h.1)
sized_value (Err e) r out h some =
    let none : ◌≡◌ {A = Option (Unit {0})} None (Some tt) = sym (ap result_ok h) ∙ some in
    cc

pub sized_is : (r : Result (Unit {0}) FromHexError) (out text : List ℕ) (n : ℕ) → Decoded r out text n → result_ok r ≡ Some tt → list_any is_ascii_uppercase text ≡ false → text ≡ encode_lower out
sized_is r out text n h some lower =
    let read = sized_value (decode_sized text n) r out h some in
    decoded_is text out lower (sym (decode_sized-twice text n (decode_sized-ok text n out read)) ∙ read)
