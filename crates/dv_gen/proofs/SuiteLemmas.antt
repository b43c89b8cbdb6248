-- The tests of a pair can be written as a suite.
use Rattle.std.proofs.Common.{◌≡◌, ◌≢◌, ℕ, ◌^◌, ◌*◌, ◌<◌, ◌≤◌, true, lit<, lit≤, List, [], ◌∷◌, ◌++◌, length, map, get_or, refl, sym, ap, subst, ◌∙◌, arith, length-append}
use Rattle.std.proofs.lemmas.Bool.{and_parts}
use Rattle.std.proofs.lemmas.Fmt.{decimal_injective, digits_decimal, length-decimal-le}
use Rattle.std.proofs.lemmas.List.{get_or-map, length-map}
use Rattle.std.proofs.lemmas.List.Elements.{All-nil, All-cons, All-head, All-tail, All-map}
use Rattle.std.proofs.lemmas.List.FromFn.{length-map-range_with_len, get_or-map-range_with_len}
use Rattle.std.specs.Char.{is_ascii_digit}
use Rattle.std.specs.Fmt.{decimal}
use Rattle.std.specs.List.{All, AllPass, AllPairs}
use Rattle.std.specs.Str.{all_ascii_digits}
use Rattle.hex.specs.Hex.{lower_digits}
use Rattle.hex.proofs.HexLemmas.{length-encode_with}
use Rattle.line_text.specs.Bytes.{bytes_or_dash}
use Rattle.line_text.specs.Lines.{text_of_lines}
use Rattle.line_text.proofs.LawsOfNumbers.{read_on-numerals}
use Rattle.test_suite.specs.Tests.{TestParts, IsTestName, IsWithin, goes_in_name}
use Rattle.test_suite.specs.Suites.{IsSuite, names_of, suite_text, test_line}
use Rattle.dv_gen.specs.Pairs.{byte_of, test_with, tests_of}

-- test k of a pair
abbrev test_of : ℕ → ℕ → ℕ → TestParts
test_of seed size k = test_with k (byte_of seed size k)

-- ---- names

digit_goes : (byte : ℕ) → is_ascii_digit byte ≡ true → goes_in_name byte ≡ true
digit_goes byte digit = grind arith

digits_go : (digits : List ℕ) → all_ascii_digits digits ≡ true → AllPass goes_in_name digits
digits_go [] h = All-nil (λ byte. goes_in_name byte ≡ true)
digits_go (d ∷ ds) h =
    let parts = and_parts (is_ascii_digit d) (all_ascii_digits ds) h in
    All-cons (λ byte. goes_in_name byte ≡ true) d ds (digit_goes d parts.0) (digits_go ds parts.1)

IsTestName-of : (k : ℕ) → k < 10 ^ 4 → IsTestName (116 ∷ decimal k)
IsTestName-of k small = record {
  nonempty = omega arith;
  short = omega (arith, length-decimal-le 4 k (lit< tt) small (omega arith));
  first = search;
  rest = All-cons (λ byte. goes_in_name byte ≡ true) 116 (decimal k) refl (digits_go (decimal k) (digits_decimal read_on-numerals k (omega arith)));
}

test_at : (seed size i : ℕ) (other : TestParts) → i < 4 * size → get_or (tests_of seed size) i other ≡ test_of seed size i
test_at seed size i other within = get_or-map-range_with_len (test_of seed size) 0 (4 * size) i i other within (omega arith)

count_of : (seed size : ℕ) → length (tests_of seed size) ≡ 4 * size
count_of seed size = length-map-range_with_len (test_of seed size) 0 (4 * size)

name_at : (seed size i : ℕ) (other : List ℕ) → i < 4 * size → get_or (names_of (tests_of seed size)) i other ≡ 116 ∷ decimal i
name_at seed size i other within =
    get_or-map (λ test. test.name) (tests_of seed size) i (test_of seed size 0) other (omega (arith, count_of seed size))
    ∙ ap (λ (test : TestParts). test.name) (test_at seed size i (test_of seed size 0) within)

apart : (seed size : ℕ) → size ≤ 400 → AllPairs (λ name other. name ≢ other) (names_of (tests_of seed size))
apart seed size few i j other less within same =
    let count : length (names_of (tests_of seed size)) ≡ 4 * size = length-map (tests_of seed size) (λ test. test.name) ∙ count_of seed size in
    let inside : j < 4 * size = omega arith in
    let before : i < 4 * size = omega arith in
    let names : 116 ∷ decimal i ≡ 116 ∷ decimal j = sym (name_at seed size i other before) ∙ same ∙ name_at seed size j other inside in
    let texts : decimal i ≡ decimal j = cc in
    omega (arith, decimal_injective i j (omega arith) (omega arith) texts)

-- ---- lines

length-test_line : (k byte : ℕ) → k < 10 ^ 4 → length (test_line (test_with k byte)) ≤ 40
length-test_line k byte small =
    let name = length-decimal-le 4 k (lit< tt) small (omega arith) in
    let budget = length-decimal-le 5 10000 (lit< tt) (lit< tt) (lit< tt) in
    let input = length-encode_with lower_digits (byte ∷ []) in
    let parts = length-append (decimal k) (32 ∷ (decimal 10000 ++ 32 ∷ bytes_or_dash (byte ∷ []))) in
    let others = length-append (decimal 10000) (32 ∷ bytes_or_dash (byte ∷ [])) in
    omega (arith, name, budget, input, parts, others)

length-text_of_lines : (lines : List (List ℕ)) → All (λ line. length line ≤ 40) lines → length (text_of_lines lines) ≤ 41 * length lines
length-text_of_lines [] all = omega arith
length-text_of_lines (line ∷ lines) all =
    let Short : List ℕ → Type 0 = λ line. length line ≤ 40 in
    let more = length-text_of_lines lines (All-tail Short line lines all) in
    let first = All-head Short line lines all in
    omega (arith, more, first, length-append line (10 ∷ text_of_lines lines))

short_lines : (seed size : ℕ) → size ≤ 400 → All (λ line. length line ≤ 40) (map test_line (tests_of seed size))
short_lines seed size few =
    All-map (λ line. length line ≤ 40) test_line (tests_of seed size)
    (λ i other within.
    let inside : i < 4 * size = omega (arith, count_of seed size, within) in
    subst (λ test. length (test_line test) ≤ 40) (sym (test_at seed size i other inside)) (length-test_line i (byte_of seed size i) (omega arith)))

short_text : (seed size : ℕ) → size ≤ 400 → length (suite_text (tests_of seed size)) ≤ 16777216
short_text seed size few =
    let lines = length-text_of_lines (map test_line (tests_of seed size)) (short_lines seed size few) in
    let count = length-map (tests_of seed size) test_line ∙ count_of seed size in
    omega (arith, lines, count)

IsWithin-of : (seed size k : ℕ) → k < 10 ^ 4 → IsWithin (test_of seed size k)
IsWithin-of seed size k small = record { name = IsTestName-of k small; budget = lit≤ tt; input = lit≤ tt }

pub IsSuite-tests_of : (seed size : ℕ) → size ≤ 400 → IsSuite (tests_of seed size)
IsSuite-tests_of seed size few = record {
  within = λ i other within.
      let inside : i < 4 * size = omega (arith, count_of seed size, within) in
      subst IsWithin (sym (test_at seed size i other inside)) (IsWithin-of seed size i (omega arith));
  apart = apart seed size few;
  few = omega (arith, count_of seed size);
  short = short_text seed size few;
}
