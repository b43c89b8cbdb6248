-- A text has tests or one fault and never both, and its tests are determined.
use Rattle.std.proofs.Common.{◌≡◌, ◌≢◌, ◌<◌, ◌≤◌, ◌+◌, ℕ, true, List, [], ◌∷◌, length, length-take, take, get_or, get_or-take, map, Result, Ok, Err, MatchResult, refl, sym, ap, subst, ◌∙◌, inl, inr, arith, append-nil}
use Rattle.std.specs.List.{All, AllPairs}
use Rattle.std.specs.Result.{IsErrAnd}
use Rattle.std.proofs.lemmas.Option.{slice_get_within, get_or_from_slice_get}
use Rattle.std.proofs.lemmas.List.Elements.{All-head, All-tail}
use Rattle.std.proofs.lemmas.List.{length-map}
use Rattle.std.proofs.lemmas.Bool.{cases_lt}
use Rattle.hex.specs.Hex.{IsBytes}
use Rattle.line_text.specs.Lines.{TextLine, lines_of, line_with}
use Rattle.test_suite.specs.declared.error.SuiteError.{SuiteError}
use Rattle.test_suite.specs.declared.error.SuiteError.TheVariants.{TooLong, Line, TooMany, Twice, Memory}
use Rattle.test_suite.specs.Causes.{IsFirstRepeat, HasCause, IsOnlyCause}
use Rattle.test_suite.specs.Faults.{IsFaultOf}
use Rattle.test_suite.specs.Tests.{TestParts, IsWithin}
use Rattle.test_suite.specs.Suites.{first_line, test_line, suite_text, names_of, most_bytes, most_tests, SaysTests}
use Rattle.test_suite.specs.Rules.{IsFirstFault}
use Rattle.test_suite.proofs.LineLemmas.{test_line-injective}
use Rattle.test_suite.proofs.SuiteLemmas.{keeps_line, lines_of-suite_text}

-- the lines of a text that says tests
lines_of-says : (text : List ℕ) (tests : List TestParts) → SaysTests text tests → lines_of text ≡ line_with first_line true ∷ map (λ line. line_with line true) (map test_line tests)
lines_of-says text tests says =
    ap lines_of (says.is ∙ sym (append-nil (suite_text tests))) ∙ lines_of-suite_text tests [] says.within
    ∙ ap (λ lines. line_with first_line true ∷ lines) (append-nil (map (λ line. line_with line true) (map test_line tests)))

-- no line of a text that says tests breaks a rule
pub says_no_fault : (text : List ℕ) (tests : List TestParts) (n r : ℕ) → SaysTests text tests → ¬ IsFirstFault text n r
says_no_fault text tests n r says fault =
    let lines = lines_of-says text tests says in
    let count : length (lines_of text) ≡ length tests + 1 = ap length lines ∙ count_lines in
    let within : (1 ≤ n) × (n ≤ length tests + 1) = elim fault.place [ inl one ↦ (omega arith, omega arith) | inr later ↦ (omega arith, omega arith) ] in
    fault.least.broken (keeps_line text [] tests n fault.least.rule (says.is ∙ sym (append-nil (suite_text tests))) says.within says.bytes within.0 within.1 fault.least.asked)
  where
    count_lines : length (line_with first_line true ∷ map (λ line. line_with line true) (map test_line tests)) ≡ length tests + 1
    count_lines = omega (arith, length-map (map test_line tests) (λ line. line_with line true), length-map tests test_line)

abbrev first_bytes : List TextLine → List ℕ
first_bytes [] = []
first_bytes (line ∷ more) = line.bytes

-- a text says one list of tests
pub says_same : (text : List ℕ) (a b : List TestParts) → SaysTests text a → SaysTests text b → a ≡ b
says_same text a b sa sb =
    same_tests a b sa.within sb.within sa.bytes sb.bytes (tail_same (sym (lines_of-says text a sa) ∙ lines_of-says text b sb))
  where
    Ended : List TestParts → List TextLine
    Ended tests = map (λ line. line_with line true) (map test_line tests)

    tail_same : (line_with first_line true ∷ Ended a) ≡ (line_with first_line true ∷ Ended b) → Ended a ≡ Ended b
    tail_same e = cc e

    same_tests : (xs ys : List TestParts) → All IsWithin xs → All IsWithin ys → All (λ t. IsBytes t.input) xs → All (λ t. IsBytes t.input) ys → Ended xs ≡ Ended ys → xs ≡ ys
    same_tests [] [] wx wy bx by' e = refl
    same_tests [] (y ∷ ys) wx wy bx by' e = cc e
    same_tests (x ∷ xs) [] wx wy bx by' e = cc e
    same_tests (x ∷ xs) (y ∷ ys) wx wy bx by' e =
        let Bytes : TestParts → Type 0 = λ t. IsBytes t.input in
        let first = test_line-injective x y (All-head IsWithin x xs wx) (All-head IsWithin y ys wy) (All-head Bytes x xs bx) (All-head Bytes y ys by') (ap first_bytes e) in
        let rest = same_tests xs ys (All-tail IsWithin x xs wx) (All-tail IsWithin y ys wy) (All-tail Bytes x xs bx) (All-tail Bytes y ys by') (cc e) in
        cc (first, rest)

-- a text has one first fault
pub one_fault : (text : List ℕ) (n r m s : ℕ) → IsFirstFault text n r → IsFirstFault text m s → (n ≡ m) × (r ≡ s)
one_fault text n r m s one other =
    elim (cases_lt n m) [
      | inl before ↦ absurd (not_before n r m s one other before)
      | inr not_before' ↦ elim (cases_lt m n) [
        | inl after ↦ absurd (not_before m s n r other one after)
        | inr not_after ↦
            let same : n ≡ m = omega arith in
            (same, same_rule n r s one (subst (λ k. IsFirstFault text k s) (sym same) other))
      ]
    ]
  where
    least_place : (k q : ℕ) → IsFirstFault text k q → 1 ≤ k
    least_place k q fault = elim fault.place [ inl first ↦ omega arith | inr later ↦ omega arith ]

    not_before : (k q l p : ℕ) → IsFirstFault text k q → IsFirstFault text l p → k < l → ⊥
    not_before k q l p fault later before = fault.least.broken (later.earlier k fault.least.rule (least_place k q fault) before fault.least.asked)

    not_less : (k q p : ℕ) → IsFirstFault text k q → IsFirstFault text k p → q < p → ⊥
    not_less k q p fault more less = fault.least.broken (more.least.least fault.least.rule fault.least.asked (omega (arith, fault.least.number)))

    same_rule : (k q p : ℕ) → IsFirstFault text k q → IsFirstFault text k p → q ≡ p
    same_rule k q p fault more = elim (cases_lt q p) [
      | inl less ↦ absurd (not_less k q p fault more less)
      | inr not_less' ↦ elim (cases_lt p q) [ inl greater ↦ absurd (not_less k p q more fault greater) | inr not_greater ↦ omega arith ]
    ]

-- where a text says tests, only memory can fail
pub only_memory : (text : List ℕ) (tests : List TestParts) (error : SuiteError) → SaysTests text tests → IsFaultOf text error → error ≡ Memory
only_memory text tests (TooLong n) says fault = absurd fault
only_memory text tests (Line n r) says fault = absurd (says_no_fault text tests n r says fault)
only_memory text tests (TooMany n) says fault = absurd fault
only_memory text tests (Twice n) says fault = absurd fault
only_memory text tests Memory says fault = refl

-- names that differ have no repeat
pub apart_no_repeat : (names : List (List ℕ)) (place : ℕ) → AllPairs (λ name other. name ≢ other) names → ¬ IsFirstRepeat names place
apart_no_repeat names place apart repeat =
    let within : place < length names = slice_get_within names place repeat.name repeat.here in
    let at : ℕ = repeat.before.0 in
    let before : at < place = omega (arith, repeat.before.1, length-take {A = List ℕ}) in
    let first : get_or names at repeat.name ≡ repeat.name = sym (get_or-take place names at repeat.name before) ∙ repeat.before.2 in
    let second : get_or names place repeat.name ≡ repeat.name = get_or_from_slice_get names place repeat.name repeat.name repeat.here in
    apart at place repeat.name before within (first ∙ sym second)

-- an error that was passed on
pub passed_on : {V : Type 0} (r : Result V SuiteError) (found : V → Type 0) (error : SuiteError) → IsErrAnd r (λ e. e ≡ error) → error ≡ Memory → MatchResult r found (λ e. e ≡ Memory)
passed_on (Ok v) found error err memory = absurd err
passed_on (Err e) found error err memory = err ∙ memory

-- ---- a text is refused for one reason

-- the first repeat of a list of names is at one place
one_repeat : (names : List (List ℕ)) (a b : ℕ) → IsFirstRepeat names a → IsFirstRepeat names b → a ≡ b
one_repeat names a b one other = elim (cases_lt a b) [
  | inl before ↦ absurd (not_before a b one other before)
  | inr not_before' ↦ elim (cases_lt b a) [ inl after ↦ absurd (not_before b a other one after) | inr not_after ↦ omega arith ]
]
  where
    not_before : (x y : ℕ) → IsFirstRepeat names x → IsFirstRepeat names y → x < y → ⊥
    not_before x y first later lt =
        let inside : y < length names = slice_get_within names y later.name later.here in
        let at : ℕ = first.before.0 in
        let low : at < x = omega (arith, first.before.1, length-take {A = List ℕ}) in
        let size : length (take y names) ≡ y = omega (arith, length-take {A = List ℕ} y names) in
        let here : get_or (take y names) x first.name ≡ first.name = get_or-take y names x first.name lt ∙ get_or_from_slice_get names x first.name first.name first.here in
        let there : get_or (take y names) at first.name ≡ first.name = get_or-take y names at first.name (omega arith) ∙ sym (get_or-take x names at first.name low) ∙ first.before.2 in
        later.apart at x first.name low (omega arith) (there ∙ sym here)

-- two causes other than memory are one
one_cause : (text : List ℕ) (a b : SuiteError) → HasCause text a → HasCause text b → a ≢ Memory → b ≢ Memory → a ≡ b
one_cause text Memory b one other some some' = absurd (some refl)
one_cause text (TooLong n) Memory one other some some' = absurd (some' refl)
one_cause text (TooLong n) (TooLong m) one other some some' = ap TooLong (one.0 ∙ sym other.0)
one_cause text (TooLong n) (Line m r) one other some some' = absurd (omega (arith, one.0, one.1, other.0))
one_cause text (TooLong n) (TooMany m) one other some some' = absurd (omega (arith, one.0, one.1, other.0))
one_cause text (TooLong n) (Twice m) one other some some' = absurd (omega (arith, one.0, one.1, other.0))
one_cause text (Line n r) Memory one other some some' = absurd (some' refl)
one_cause text (Line n r) (TooLong m) one other some some' = absurd (omega (arith, other.0, other.1, one.0))
one_cause text (Line n r) (Line m s) one other some some' = let same = one_fault text n r m s one.1 other.1 in cc (same.0, same.1)
one_cause text (Line n r) (TooMany m) one other some some' = absurd (says_no_fault text other.1 n r other.2 one.1)
one_cause text (Line n r) (Twice m) one other some some' = absurd (says_no_fault text other.1 n r other.2 one.1)
one_cause text (TooMany n) Memory one other some some' = absurd (some' refl)
one_cause text (TooMany n) (TooLong m) one other some some' = absurd (omega (arith, other.0, other.1, one.0))
one_cause text (TooMany n) (Line m s) one other some some' = absurd (says_no_fault text one.1 m s one.2 other.1)
one_cause text (TooMany n) (TooMany m) one other some some' = ap TooMany (one.3 ∙ ap length (says_same text one.1 other.1 one.2 other.2) ∙ sym other.3)
one_cause text (TooMany n) (Twice m) one other some some' = absurd (omega (arith, one.3, one.4, ap length (says_same text one.1 other.1 one.2 other.2), other.3))
one_cause text (Twice n) Memory one other some some' = absurd (some' refl)
one_cause text (Twice n) (TooLong m) one other some some' = absurd (omega (arith, other.0, other.1, one.0))
one_cause text (Twice n) (Line m s) one other some some' = absurd (says_no_fault text one.1 m s one.2 other.1)
one_cause text (Twice n) (TooMany m) one other some some' = absurd (omega (arith, other.3, other.4, ap length (says_same text one.1 other.1 one.2 other.2), one.3))
one_cause text (Twice n) (Twice m) one other some some' =
    let same = says_same text one.1 other.1 one.2 other.2 in
    let place : one.4 ≡ other.4 = one_repeat (names_of other.1) one.4 other.4 (subst (λ ts. IsFirstRepeat (names_of ts) one.4) same one.5) other.5 in
    ap Twice (one.6 ∙ ap (λ p. p + 2) place ∙ sym other.6)

-- the told cause is the only one
pub only_cause : (text : List ℕ) (error : SuiteError) → HasCause text error → IsOnlyCause text error
only_cause text error cause = λ other has some some'. one_cause text other error has cause some some'

-- the fault of a text's lines is a cause
pub fault_cause : (text : List ℕ) (error : SuiteError) → length text ≤ most_bytes → IsFaultOf text error → HasCause text error
fault_cause text (TooLong n) short fault = absurd fault
fault_cause text (Line n r) short fault = (short, fault)
fault_cause text (TooMany n) short fault = absurd fault
fault_cause text (Twice n) short fault = absurd fault
fault_cause text Memory short fault = tt

-- what holds of an error holds of the answer that it was passed on to
pub passed_only : {V : Type 0} (r : Result V SuiteError) (found : V → Type 0) (only : SuiteError → Type 0) (error : SuiteError) → IsErrAnd r (λ e. e ≡ error) → only error → MatchResult r found only
passed_only (Ok v) found only error err holds = absurd err
passed_only (Err e) found only error err holds = subst only (sym err) holds

-- a cause other than memory excludes that the text is a suite's
pub cause_excludes : (text : List ℕ) (tests : List TestParts) (error : SuiteError) → HasCause text error → SaysTests text tests → length text ≤ most_bytes → length tests ≤ most_tests → AllPairs (λ name other. name ≢ other) (names_of tests) → error ≡ Memory
cause_excludes text tests (TooLong n) cause says short few apart = absurd (omega (arith, cause.0, cause.1, short))
cause_excludes text tests (Line n r) cause says short few apart = absurd (says_no_fault text tests n r says cause.1)
cause_excludes text tests (TooMany n) cause says short few apart = absurd (omega (arith, cause.3, cause.4, ap length (says_same text cause.1 tests cause.2 says), few))
cause_excludes text tests (Twice n) cause says short few apart =
    let same = says_same text cause.1 tests cause.2 says in
    absurd (apart_no_repeat (names_of tests) cause.4 apart (subst (λ ts. IsFirstRepeat (names_of ts) cause.4) same cause.5))
cause_excludes text tests Memory cause says short few apart = refl
