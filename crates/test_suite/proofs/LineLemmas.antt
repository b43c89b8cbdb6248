-- The line of one test, against the rules S2 to S7.
use Rattle.std.proofs.Common.{◌≡◌, ◌≢◌, ◌<◌, ◌≤◌, ℕ, true, false, List, [], ◌∷◌, ◌++◌, length, get_or, lit<, lit≤, codes, Some, refl, sym, ap, subst, ◌∙◌, arith}
use Rattle.std.specs.Fmt.{decimal}
use Rattle.std.specs.List.{All}
use Rattle.std.proofs.lemmas.List.Elements.{All-nil, All-cons, All-append, All-weaker}
use Rattle.std.proofs.lemmas.Fmt.{decimal_injective}
use Rattle.hex.specs.Hex.{IsBytes}
use Rattle.line_text.specs.Bytes.{bytes_or_dash}
use Rattle.line_text.specs.Lines.{TextLine, line_with}
use Rattle.line_text.specs.Words.{IsWord, line_of_words}
use Rattle.line_text.proofs.Laws.{AreWords-line_of_words, line_of_words-pieces, IsWord-decimal, IsWord-bytes_or_dash, bytes_or_dash-injective}
use Rattle.test_suite.specs.Tests.{TestParts, IsTestName, IsWithin, goes_in_name, most_budget, most_input}
use Rattle.test_suite.specs.Suites.{test_line}
use Rattle.test_suite.specs.Rules.{Rule, s1, s2, s3, s4, s5, s6, s7, number_of, IsAsked, HasWords, IsBudget, IsInput, Keeps, IsLeastBroken}

-- ---- the words of a test's line

-- no byte of a name is a space or a newline
name_byte-not : (c byte : ℕ) → c < 45 → goes_in_name byte ≡ true → byte ≢ c
name_byte-not c byte small goes is = grind arith

IsWord-name : (name : List ℕ) → IsTestName name → IsWord name
IsWord-name name h = record {
  nonempty = λ none. omega (arith, h.nonempty, ap length none);
  no_space = All-weaker (λ byte. goes_in_name byte ≡ true) (λ byte. byte ≢ 32) (λ byte goes. name_byte-not 32 byte (lit< tt) goes) name h.rest;
  no_newline = All-weaker (λ byte. goes_in_name byte ≡ true) (λ byte. byte ≢ 10) (λ byte goes. name_byte-not 10 byte (lit< tt) goes) name h.rest;
}

IsWord-test : IsWord (codes "test")
IsWord-test = record {
  nonempty = λ none. cc none;
  no_space = λ k d within is. test_byte k d 32 within is (lit< tt);
  no_newline = λ k d within is. test_byte k d 10 within is (lit< tt);
}
  where
    test_byte : (k d c : ℕ) → k < 4 → get_or (codes "test") k d ≡ c → c < 45 → ⊥
    test_byte k d c within is small = grind arith

are_words : (test : TestParts) → IsWithin test → All IsWord (codes "test" ∷ test.name ∷ decimal test.budget ∷ bytes_or_dash test.input ∷ [])
are_words test h =
    All-cons IsWord (codes "test") (test.name ∷ decimal test.budget ∷ bytes_or_dash test.input ∷ []) IsWord-test
    (All-cons IsWord test.name (decimal test.budget ∷ bytes_or_dash test.input ∷ []) (IsWord-name test.name h.name)
    (All-cons IsWord (decimal test.budget) (bytes_or_dash test.input ∷ []) (IsWord-decimal test.budget (omega (arith, h.budget)))
    (All-cons IsWord (bytes_or_dash test.input) [] (IsWord-bytes_or_dash test.input) (All-nil IsWord))))

pub HasWords-test_line : (test : TestParts) → IsWithin test → HasWords (test_line test) test.name (decimal test.budget) (bytes_or_dash test.input)
HasWords-test_line test h = AreWords-line_of_words (codes "test" ∷ test.name ∷ decimal test.budget ∷ bytes_or_dash test.input ∷ []) (λ none. cc none) (are_words test h)

-- a test's line has no newline in it
pub test_line-no_newline : (test : TestParts) → IsWithin test → All (λ byte. byte ≢ 10) (test_line test)
test_line-no_newline test h =
    let Plain : ℕ → Type 0 = λ byte. byte ≢ 10 in
    let space : Plain 32 = λ is. omega arith in
    All-append Plain (codes "test") (32 ∷ (test.name ++ 32 ∷ (decimal test.budget ++ 32 ∷ bytes_or_dash test.input))) IsWord-test.no_newline
    (All-cons Plain 32 (test.name ++ 32 ∷ (decimal test.budget ++ 32 ∷ bytes_or_dash test.input)) space
    (All-append Plain test.name (32 ∷ (decimal test.budget ++ 32 ∷ bytes_or_dash test.input)) (IsWord-name test.name h.name).no_newline
    (All-cons Plain 32 (decimal test.budget ++ 32 ∷ bytes_or_dash test.input) space
    (All-append Plain (decimal test.budget) (32 ∷ bytes_or_dash test.input) (IsWord-decimal test.budget (omega (arith, h.budget))).no_newline
    (All-cons Plain 32 (bytes_or_dash test.input) space (IsWord-bytes_or_dash test.input).no_newline)))))

-- the words of a line are determined
pub same_words : (line : List ℕ) (name budget input name' budget' input' : List ℕ) → HasWords line name budget input → HasWords line name' budget' input'
    → (name ≡ name') × (budget ≡ budget') × (input ≡ input')
same_words line name budget input name' budget' input' one other =
    let same : ◌≡◌ {A = List (List ℕ)} (codes "test" ∷ name ∷ budget ∷ input ∷ []) (codes "test" ∷ name' ∷ budget' ∷ input' ∷ []) = sym one.0 ∙ other.0 in
    (cc same, cc same, cc same)

-- ---- a test's line keeps every rule that is asked of it

pub Keeps-test_line : (test : TestParts) → IsWithin test → IsBytes test.input → (rule : Rule) (n : ℕ) → 1 < n → IsAsked rule n → Keeps rule (line_with (test_line test) true)
Keeps-test_line test h bytes s1 n later asked = absurd (omega arith)
Keeps-test_line test h bytes s2 n later asked = refl
Keeps-test_line test h bytes s3 n later asked = (test.name, decimal test.budget, bytes_or_dash test.input, HasWords-test_line test h)
Keeps-test_line test h bytes s4 n later asked = λ name budget input has.
    let same = same_words (test_line test) _ _ _ name budget input (HasWords-test_line test h) has in
    subst IsTestName same.0 h.name
Keeps-test_line test h bytes s5 n later asked = λ name budget input has.
    let same = same_words (test_line test) _ _ _ name budget input (HasWords-test_line test h) has in
    (test.budget, h.budget, sym same.1)
Keeps-test_line test h bytes s6 n later asked = λ name budget input has.
    let same = same_words (test_line test) _ _ _ name budget input (HasWords-test_line test h) has in
    (test.input, bytes, sym same.2)
Keeps-test_line test h bytes s7 n later asked = λ name budget input has other bytes' is.
    let same = same_words (test_line test) _ _ _ name budget input (HasWords-test_line test h) has in
    let equal : test.input ≡ other = bytes_or_dash-injective test.input other bytes bytes' (same.2 ∙ is) in
    subst (λ bs. length bs ≤ most_input) equal h.input

abbrev parts : List ℕ → ℕ → List ℕ → TestParts
parts name budget input = record { name = name; budget = budget; input = input }

-- two tests with one line are one
pub test_line-injective : (a b : TestParts) → IsWithin a → IsWithin b → IsBytes a.input → IsBytes b.input → test_line a ≡ test_line b → a ≡ b
test_line-injective a b ha hb ba bb is =
    let has : HasWords (test_line b) a.name (decimal a.budget) (bytes_or_dash a.input) = subst (λ line. HasWords line a.name (decimal a.budget) (bytes_or_dash a.input)) is (HasWords-test_line a ha) in
    let same = same_words (test_line b) _ _ _ _ _ _ has (HasWords-test_line b hb) in
    let budgets : a.budget ≡ b.budget = decimal_injective a.budget b.budget (omega (arith, ha.budget)) (omega (arith, hb.budget)) same.1 in
    let inputs : a.input ≡ b.input = bytes_or_dash-injective a.input b.input ba bb same.2 in
    same_parts a b same.0 budgets inputs
  where
    same_parts : (x y : TestParts) → x.name ≡ y.name → x.budget ≡ y.budget → x.input ≡ y.input → x ≡ y
    same_parts x y names budgets inputs =
        ap (λ name. parts name x.budget x.input) names ∙ ap (λ budget. parts y.name budget x.input) budgets ∙ ap (λ input. parts y.name y.budget input) inputs

-- ---- the least rule that a line breaks

-- the line keeps the rules from S2 up to r
pub record KeepsBelow (line : TextLine) (r : ℕ) : Type 0 where
  pub ended : 2 < r → Keeps s2 line
  pub words : 3 < r → Keeps s3 line
  pub name : 4 < r → Keeps s4 line
  pub budget : 5 < r → Keeps s5 line
  pub input : 6 < r → Keeps s6 line

pub keeps_below : (line : TextLine) (n r : ℕ) → 1 < n → r ≤ 7 → KeepsBelow line r → (other : Rule) → IsAsked other n → number_of other < r → Keeps other line
keeps_below line n r later few keeps s1 asked below = absurd (omega arith)
keeps_below line n r later few keeps s2 asked below = keeps.ended below
keeps_below line n r later few keeps s3 asked below = keeps.words below
keeps_below line n r later few keeps s4 asked below = keeps.name below
keeps_below line n r later few keeps s5 asked below = keeps.budget below
keeps_below line n r later few keeps s6 asked below = keeps.input below
keeps_below line n r later few keeps s7 asked below = absurd (omega arith)

pub least_rule : (line : TextLine) (rule : Rule) → IsAsked rule 2 → number_of rule ≤ 7 → ¬ Keeps rule line → KeepsBelow line (number_of rule)
    → (n : ℕ) → 1 < n → IsAsked rule n → IsLeastBroken (Some line) n (number_of rule)
least_rule line rule two few broken keeps n later asked = record {
  rule = rule;
  number = refl;
  asked = asked;
  broken = broken;
  least = keeps_below line n (number_of rule) later few keeps;
}

-- a line that keeps a rule through its words
pub keeps_name : (line : TextLine) (name budget input : List ℕ) → HasWords line.bytes name budget input → IsTestName name → Keeps s4 line
keeps_name line name budget input has good = λ name' budget' input' has'. subst IsTestName (same_words line.bytes _ _ _ _ _ _ has has').0 good

pub keeps_budget : (line : TextLine) (name budget input : List ℕ) → HasWords line.bytes name budget input → IsBudget budget → Keeps s5 line
keeps_budget line name budget input has good = λ name' budget' input' has'. subst IsBudget (same_words line.bytes _ _ _ _ _ _ has has').1 good

pub keeps_input : (line : TextLine) (name budget input : List ℕ) → HasWords line.bytes name budget input → IsInput input → Keeps s6 line
keeps_input line name budget input has good = λ name' budget' input' has'. subst IsInput (same_words line.bytes _ _ _ _ _ _ has has').2 good

-- the faults in their order
pub not_ended : (line : TextLine) → line.is_ended ≡ false → (n : ℕ) → 1 < n → IsLeastBroken (Some line) n 2
not_ended line unended n later = least_rule line s2 tt (lit≤ tt) (λ ended. cc (sym ended ∙ unended))
    (record { ended = λ lt. absurd (omega arith); words = λ lt. absurd (omega arith); name = λ lt. absurd (omega arith); budget = λ lt. absurd (omega arith); input = λ lt. absurd (omega arith) })
    n later tt

pub no_words : (line : TextLine) → line.is_ended ≡ true → ((name budget input : List ℕ) → ¬ HasWords line.bytes name budget input) → (n : ℕ) → 1 < n → IsLeastBroken (Some line) n 3
no_words line ended none n later = least_rule line s3 (lit< tt) (lit≤ tt) (λ some. none some.0 some.1 some.2 some.3)
    (record { ended = λ lt. ended; words = λ lt. absurd (omega arith); name = λ lt. absurd (omega arith); budget = λ lt. absurd (omega arith); input = λ lt. absurd (omega arith) })
    n later later

pub no_name : (line : TextLine) (name budget input : List ℕ) → line.is_ended ≡ true → HasWords line.bytes name budget input → ¬ IsTestName name → (n : ℕ) → 1 < n → IsLeastBroken (Some line) n 4
no_name line name budget input ended has bad n later = least_rule line s4 (lit< tt) (lit≤ tt) (λ keeps. bad (keeps name budget input has))
    (record { ended = λ lt. ended; words = λ lt. (name, budget, input, has); name = λ lt. absurd (omega arith); budget = λ lt. absurd (omega arith); input = λ lt. absurd (omega arith) })
    n later later

pub no_budget : (line : TextLine) (name budget input : List ℕ) → line.is_ended ≡ true → HasWords line.bytes name budget input → IsTestName name
    → ((number : ℕ) → number ≤ most_budget → budget ≢ decimal number) → (n : ℕ) → 1 < n → IsLeastBroken (Some line) n 5
no_budget line name budget input ended has good bad n later = least_rule line s5 (lit< tt) (lit≤ tt)
    (λ keeps. let number = keeps name budget input has in bad number.0 number.1 number.2)
    (record { ended = λ lt. ended; words = λ lt. (name, budget, input, has); name = λ lt. keeps_name line name budget input has good; budget = λ lt. absurd (omega arith); input = λ lt. absurd (omega arith) })
    n later later

pub no_input : (line : TextLine) (name budget input : List ℕ) → line.is_ended ≡ true → HasWords line.bytes name budget input → IsTestName name → IsBudget budget
    → ((bytes : List ℕ) → IsBytes bytes → input ≢ bytes_or_dash bytes) → (n : ℕ) → 1 < n → IsLeastBroken (Some line) n 6
no_input line name budget input ended has good number bad n later = least_rule line s6 (lit< tt) (lit≤ tt)
    (λ keeps. let bytes = keeps name budget input has in bad bytes.0 bytes.1 bytes.2)
    (record { ended = λ lt. ended; words = λ lt. (name, budget, input, has); name = λ lt. keeps_name line name budget input has good; budget = λ lt. keeps_budget line name budget input has number; input = λ lt. absurd (omega arith) })
    n later later

pub long_input : (line : TextLine) (name budget input bytes : List ℕ) → line.is_ended ≡ true → HasWords line.bytes name budget input → IsTestName name → IsBudget budget
    → IsBytes bytes → input ≡ bytes_or_dash bytes → most_input < length bytes → (n : ℕ) → 1 < n → IsLeastBroken (Some line) n 7
long_input line name budget input bytes ended has good number fits is long n later = least_rule line s7 (lit< tt) (lit≤ tt)
    (λ keeps. let short = keeps name budget input has bytes fits is in omega arith)
    (record { ended = λ lt. ended; words = λ lt. (name, budget, input, has); name = λ lt. keeps_name line name budget input has good; budget = λ lt. keeps_budget line name budget input has number; input = λ lt. keeps_input line name budget input has (bytes, fits, is) })
    n later later

-- a line with these words is the line of their test
pub line_of_test : (line : TextLine) (name word input : List ℕ) (budget : ℕ) (bytes : List ℕ) → HasWords line.bytes name word input → word ≡ decimal budget → input ≡ bytes_or_dash bytes
    → line.bytes ≡ test_line (record { name = name; budget = budget; input = bytes })
line_of_test line name word input budget bytes has number is =
    sym (line_of_words-pieces line.bytes) ∙ ap line_of_words (has.0)
    ∙ ap (λ w. line_of_words (codes "test" ∷ name ∷ w ∷ input ∷ [])) number
    ∙ ap (λ w. line_of_words (codes "test" ∷ name ∷ decimal budget ∷ w ∷ [])) is
