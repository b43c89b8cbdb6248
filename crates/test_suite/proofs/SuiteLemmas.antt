-- The lines of a suite's text, and the first that breaks a rule.
use Rattle.std.proofs.Common.{◌≡◌, ◌≢◌, ◌<◌, ◌≤◌, ◌+◌, ◌-◌, ℕ, zero, suc, true, false, List, [], ◌∷◌, ◌++◌, length, length-append, lit≤, map, get_or, codes, Option, Some, None, refl, sym, ap, ◌∙◌, inl, inr, arith, append_assoc}
use Rattle.std.specs.List.{All, slice_get}
use Rattle.std.proofs.lemmas.List.Elements.{All-nil, All-cons, All-head, All-tail}
use Rattle.std.proofs.lemmas.List.{length-map, map-append}
use Rattle.hex.specs.Hex.{IsBytes}
use Rattle.line_text.specs.Lines.{TextLine, lines_of, line_with, text_of_lines, line_at}
use Rattle.line_text.proofs.Laws.{lines_of-text_of_lines}
use Rattle.test_suite.specs.declared.line.LineFault.{LineFault}
use Rattle.test_suite.specs.declared.line.LineFault.TheVariants as fault
use Rattle.test_suite.specs.Faults.{IsLineFault, IsFaultOf, refusal_at}
use Rattle.test_suite.specs.Tests.{TestParts, IsWithin}
use Rattle.test_suite.specs.Suites.{first_line, test_line, suite_text}
use Rattle.test_suite.specs.Rules.{Rule, s1, s2, s3, s4, s5, s6, s7, number_of, IsAsked, Keeps, KeepsThere, IsLeastBroken, IsFirstFault}
use Rattle.test_suite.proofs.LineLemmas.{Keeps-test_line, test_line-no_newline}

-- no line of a suite has a newline in it
Plain : List ℕ → Type 0
Plain line = All (λ byte. byte ≢ 10) line

plain_first : All (λ byte. byte ≢ 10) first_line
plain_first = λ k d within is. first_byte k d within is
  where
    first_byte : (k d : ℕ) → k < 14 → get_or (codes "dejavu suite 1") k d ≡ 10 → ⊥
    first_byte k d within is = grind arith

plain_tests : (tests : List TestParts) → All IsWithin tests → All (λ line. All (λ byte. byte ≢ 10) line) (map test_line tests)
plain_tests [] h = All-nil (λ line. All (λ byte. byte ≢ 10) line)
plain_tests (test ∷ more) h =
    All-cons (λ line. All (λ byte. byte ≢ 10) line) (test_line test) (map test_line more)
    (test_line-no_newline test (All-head IsWithin test more h)) (plain_tests more (All-tail IsWithin test more h))

pub lines_of-suite_text : (tests : List TestParts) (rest : List ℕ) → All IsWithin tests
    → lines_of (suite_text tests ++ rest) ≡ line_with first_line true ∷ (map (λ line. line_with line true) (map test_line tests) ++ lines_of rest)
lines_of-suite_text tests rest h =
    lines_of-text_of_lines (first_line ∷ map test_line tests) rest
    (All-cons (λ line. All (λ byte. byte ≢ 10) line) first_line (map test_line tests) plain_first (plain_tests tests h))

-- a place among the lines of tests
keeps_among : (tests : List TestParts) (others : List TextLine) (k n : ℕ) (rule : Rule) → All IsWithin tests → All (λ test. IsBytes test.input) tests → k < length tests → 1 < n → IsAsked rule n
    → KeepsThere rule (slice_get (map (λ line. line_with line true) (map test_line tests) ++ others) k)
keeps_among [] others k n rule within bytes below later asked = absurd (omega arith)
keeps_among (test ∷ more) others zero n rule within bytes below later asked =
    Keeps-test_line test (All-head IsWithin test more within) (All-head (λ t. IsBytes t.input) test more bytes) rule n later asked
keeps_among (test ∷ more) others (suc k) n rule within bytes below later asked =
    keeps_among more others k n rule (All-tail IsWithin test more within) (All-tail (λ t. IsBytes t.input) test more bytes) (omega arith) later asked

-- line 1 keeps its rules
keeps_first : (rule : Rule) (n : ℕ) → n ≡ 1 → IsAsked rule n → Keeps rule (line_with first_line true)
keeps_first s1 n one asked = refl
keeps_first s2 n one asked = refl
keeps_first s3 n one asked = absurd (omega arith)
keeps_first s4 n one asked = absurd (omega arith)
keeps_first s5 n one asked = absurd (omega arith)
keeps_first s6 n one asked = absurd (omega arith)
keeps_first s7 n one asked = absurd (omega arith)

-- the lines of a suite's first tests keep every rule that is asked of them
keeps_at : (tests : List TestParts) (others : List TextLine) (k : ℕ) (rule : Rule) → All IsWithin tests → All (λ test. IsBytes test.input) tests → k < length tests + 1 → IsAsked rule (k + 1)
    → KeepsThere rule (slice_get (line_with first_line true ∷ (map (λ line. line_with line true) (map test_line tests) ++ others)) k)
keeps_at tests others zero rule within bytes below asked = keeps_first rule 1 refl asked
keeps_at tests others (suc k) rule within bytes below asked = keeps_among tests others k (suc k + 1) rule within bytes (omega arith) (omega arith) asked

pub keeps_line : (text rest : List ℕ) (tests : List TestParts) (m : ℕ) (rule : Rule) → text ≡ suite_text tests ++ rest → All IsWithin tests → All (λ test. IsBytes test.input) tests
    → 1 ≤ m → m ≤ length tests + 1 → IsAsked rule m → KeepsThere rule (line_at text m)
keeps_line text rest tests m rule is within bytes first last asked =
    let lines : lines_of text ≡ line_with first_line true ∷ (map (λ line. line_with line true) (map test_line tests) ++ lines_of rest) = ap lines_of is ∙ lines_of-suite_text tests rest within in
    let place : m - 1 + 1 ≡ m = omega arith in
    rw lines (keeps_at tests (lines_of rest) (m - 1) rule within bytes (omega arith) (rw place asked))

-- the line that follows the tests
after_tests : (lines others : List TextLine) (line : TextLine) → slice_get (lines ++ line ∷ others) (length lines) ≡ Some line
after_tests [] others line = refl
after_tests (x ∷ xs) others line = after_tests xs others line

line_after : (text rest : List ℕ) (tests : List TestParts) (line : TextLine) (more : List TextLine) → text ≡ suite_text tests ++ rest → All IsWithin tests → lines_of rest ≡ line ∷ more
    → (line_at text (length tests + 2) ≡ Some line) × (length tests + 2 ≤ length (lines_of text))
line_after text rest tests line more is within left =
    let ended : List TextLine = map (λ bytes. line_with bytes true) (map test_line tests) in
    let lines : lines_of text ≡ line_with first_line true ∷ (ended ++ line ∷ more) = ap lines_of is ∙ lines_of-suite_text tests rest within ∙ ap (λ ls. line_with first_line true ∷ (ended ++ ls)) left in
    let count : length ended ≡ length tests = length-map (map test_line tests) (λ bytes. line_with bytes true) ∙ length-map tests test_line in
    let place : length tests + 2 - 1 ≡ suc (length ended) = omega arith in
    (rw (lines, place) (after_tests ended more line), omega (arith, ap length lines, length-append ended (line ∷ more), count))

-- the first fault of a text is that of the line after its good tests
pub fault_after : (text rest : List ℕ) (tests : List TestParts) (line : TextLine) (more : List TextLine) (r : ℕ) → text ≡ suite_text tests ++ rest → All IsWithin tests → All (λ test. IsBytes test.input) tests
    → lines_of rest ≡ line ∷ more → IsLeastBroken (Some line) (length tests + 2) r → IsFirstFault text (length tests + 2) r
fault_after text rest tests line more r is within bytes left broken =
    let at = line_after text rest tests line more is within left in
    record {
      place = inr (omega arith, at.1);
      least = rw at.0 broken;
      earlier = λ m rule first before asked. keeps_line text rest tests m rule is within bytes first (omega arith) asked;
    }

-- the fault of line 1
pub first_fault : (text : List ℕ) (line : Option TextLine) (r : ℕ) → line_at text 1 ≡ line → IsLeastBroken line 1 r → IsFirstFault text 1 r
first_fault text line r at broken = record {
  place = inl refl;
  least = rw at broken;
  earlier = λ m rule first before asked. absurd (omega arith);
}

-- ---- a suite's text with one more test

pub more_test : (text before line rest : List ℕ) (tests : List TestParts) (test : TestParts) → text ≡ suite_text tests ++ before → before ≡ line ++ 10 ∷ rest → line ≡ test_line test
    → text ≡ suite_text (tests ++ test ∷ []) ++ rest
more_test text before line rest tests test is cut made =
    is ∙ ap (λ left. suite_text tests ++ left) (cut ∙ ap (λ bytes. bytes ++ 10 ∷ rest) made) ∙ sym (one_more first_line tests)
  where
    lines_push : (lines : List (List ℕ)) (last : List ℕ) → text_of_lines (lines ++ last ∷ []) ++ rest ≡ text_of_lines lines ++ (last ++ 10 ∷ rest)
    lines_push [] last = append_assoc last (10 ∷ []) rest
    lines_push (x ∷ xs) last =
        append_assoc x (10 ∷ text_of_lines (xs ++ last ∷ [])) rest ∙ ap (λ left. x ++ 10 ∷ left) (lines_push xs last)
        ∙ sym (append_assoc x (10 ∷ text_of_lines xs) (last ++ 10 ∷ rest))

    one_more : (head : List ℕ) (ts : List TestParts) → text_of_lines (head ∷ map test_line (ts ++ test ∷ [])) ++ rest ≡ text_of_lines (head ∷ map test_line ts) ++ (test_line test ++ 10 ∷ rest)
    one_more head ts = ap (λ lines. text_of_lines (head ∷ lines) ++ rest) (map-append test_line ts (test ∷ [])) ∙ lines_push (head ∷ map test_line ts) (test_line test)

-- each test takes a byte at least
pub count_within : (tests : List TestParts) → length tests ≤ length (suite_text tests)
count_within tests = omega (arith, lines_count (map test_line tests), length-map tests test_line, length-append first_line (10 ∷ text_of_lines (map test_line tests)))
  where
    lines_count : (lines : List (List ℕ)) → length lines ≤ length (text_of_lines lines)
    lines_count [] = omega arith
    lines_count (line ∷ more) = let rest = lines_count more in omega (arith, length-append line (10 ∷ text_of_lines more), rest)

-- as many tests as the text has bytes, at most
pub count_in : (text rest : List ℕ) (tests : List TestParts) → text ≡ suite_text tests ++ rest → length tests ≤ length text
count_in text rest tests is = omega (arith, count_within tests, ap length is, length-append (suite_text tests) rest)

-- ---- the faults of line 1

number_of-some : (rule : Rule) → 1 ≤ number_of rule
number_of-some s1 = lit≤ tt
number_of-some s2 = lit≤ tt
number_of-some s3 = lit≤ tt
number_of-some s4 = lit≤ tt
number_of-some s5 = lit≤ tt
number_of-some s6 = lit≤ tt
number_of-some s7 = lit≤ tt

-- a text without lines lacks line 1
pub missing_first : (text : List ℕ) → text ≡ [] → IsFirstFault text 1 1
missing_first text none = first_fault text None 1 (ap (λ bytes. line_at bytes 1) none) (record {
  rule = s1;
  number = refl;
  asked = refl;
  broken = λ h. h;
  least = λ other asked below. absurd (omega (arith, number_of-some other));
})

-- line 1 says something else
pub other_first : (text : List ℕ) (line : TextLine) (more : List TextLine) → lines_of text ≡ line ∷ more → line.bytes ≢ first_line → IsFirstFault text 1 1
other_first text line more lines other = first_fault text (Some line) 1 (ap (λ ls. slice_get ls 0) lines) (record {
  rule = s1;
  number = refl;
  asked = refl;
  broken = other;
  least = λ rule asked below. absurd (omega (arith, number_of-some rule));
})

below_two : (line : TextLine) (rule : Rule) → number_of rule < 2 → line.bytes ≡ first_line → Keeps rule line
below_two line s1 below is = is
below_two line s2 below is = absurd (omega arith)
below_two line s3 below is = absurd (omega arith)
below_two line s4 below is = absurd (omega arith)
below_two line s5 below is = absurd (omega arith)
below_two line s6 below is = absurd (omega arith)
below_two line s7 below is = absurd (omega arith)

-- line 1 lacks its newline
pub unended_first : (text : List ℕ) (line : TextLine) (more : List TextLine) → lines_of text ≡ line ∷ more → line.bytes ≡ first_line → line.is_ended ≡ false → IsFirstFault text 1 2
unended_first text line more lines is unended = first_fault text (Some line) 2 (ap (λ ls. slice_get ls 0) lines) (record {
  rule = s2;
  number = refl;
  asked = tt;
  broken = λ ended. cc (sym ended ∙ unended);
  least = λ rule asked below. below_two line rule below is;
})

-- ---- the fault of a line, as the fault of the text

pub fault_of_line : (text rest : List ℕ) (tests : List TestParts) (line : TextLine) (more : List TextLine) (fault : LineFault) → text ≡ suite_text tests ++ rest → All IsWithin tests
    → All (λ test. IsBytes test.input) tests → lines_of rest ≡ line ∷ more → IsLineFault line fault → IsFaultOf text (refusal_at fault (length tests + 2))
fault_of_line text rest tests line more (fault.Rule r) is within bytes left broken = fault_after text rest tests line more r is within bytes left (broken (length tests + 2) (omega arith))
fault_of_line text rest tests line more fault.Memory is within bytes left broken = tt
