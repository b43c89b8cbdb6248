-- Which rules are asked of a line.
use Rattle.std.proofs.Common.{◌≡◌, ◌<◌, ◌≤◌, ◌+◌, ◌*◌, ◌⊎◌, ℕ, List, [], ◌∷◌, get_or, codes, refl, sym, ap, subst, ◌∙◌, inl, inr, arith}
use Rattle.std.specs.Fmt.{decimal}
use Rattle.std.proofs.lemmas.Fmt.{decimal_injective}
use Rattle.test_history.specs.declared.version.Version.{Version}
use Rattle.test_history.specs.Rules.{Rule, h1, h2, h3, h4, h5, h6, h7, h8, h9, h10, h11, h12, h13, h14, number_of, IsAsked, IsOfEntry, Keeps, SaysEdges, SaysTests}
use Rattle.line_text.proofs.LawsOfValues.{one_value}

-- a rule is known by its number
rule_of : ℕ → Rule
rule_of n = get_or (h1 ∷ h1 ∷ h2 ∷ h3 ∷ h4 ∷ h5 ∷ h6 ∷ h7 ∷ h8 ∷ h9 ∷ h10 ∷ h11 ∷ h12 ∷ h13 ∷ h14 ∷ []) n h1

rule_of-number : (rule : Rule) → rule_of (number_of rule) ≡ rule
unfolding rule_of
rule_of-number h1 = refl
rule_of-number h2 = refl
rule_of-number h3 = refl
rule_of-number h4 = refl
rule_of-number h5 = refl
rule_of-number h6 = refl
rule_of-number h7 = refl
rule_of-number h8 = refl
rule_of-number h9 = refl
rule_of-number h10 = refl
rule_of-number h11 = refl
rule_of-number h12 = refl
rule_of-number h13 = refl
rule_of-number h14 = refl

pub same_rule : (a b : Rule) → number_of a ≡ number_of b → a ≡ b
same_rule a b is = sym (rule_of-number a) ∙ ap rule_of is ∙ rule_of-number b

pub keeps_same : (version : Version) (text : List ℕ) (n : ℕ) (rule other : Rule) → number_of other ≡ number_of rule → Keeps version text rule n → Keeps version text other n
keeps_same version text n rule other is keeps = subst (λ r. Keeps version text r n) (same_rule rule other (sym is)) keeps

-- line 3 and line 4 say one number
pub edges_same : (text : List ℕ) (a b : ℕ) → SaysEdges text a → SaysEdges text b → a ≡ b
edges_same text a b one other = decimal_injective a b (omega (arith, one.0)) (omega (arith, other.0)) (one_value text 3 (codes "edges") (decimal a) (decimal b) one.1 other.1)

pub tests_same : (text : List ℕ) (a b : ℕ) → SaysTests text a → SaysTests text b → a ≡ b
tests_same text a b one other = decimal_injective a b (omega (arith, one.0)) (omega (arith, other.0)) (one_value text 4 (codes "tests") (decimal a) (decimal b) one.1 other.1)

-- of each of the first four lines one rule is asked
pub asked_head : (text : List ℕ) (n : ℕ) (rule : Rule) → n ≤ 4 → IsAsked text rule n → number_of rule ≡ n
asked_head text n h1 few asked = omega arith
asked_head text n h2 few asked = omega arith
asked_head text n h3 few asked = omega arith
asked_head text n h4 few asked = omega arith
asked_head text n h5 few asked = omega (arith, asked.4)
asked_head text n h6 few asked = omega (arith, asked.4)
asked_head text n h7 few asked = omega (arith, asked.4)
asked_head text n h8 few asked = omega (arith, asked.4)
asked_head text n h9 few asked = omega (arith, asked.4)
asked_head text n h10 few asked = omega (arith, asked.4)
asked_head text n h11 few asked = omega (arith, asked.4)
asked_head text n h12 few asked = omega (arith, asked.4)
asked_head text n h13 few asked = omega (arith, asked.2)
asked_head text n h14 few asked = omega (arith, asked.2)

-- of an entry's first line two, and of each other one
pub asked_entry : (text : List ℕ) (tests entry k n : ℕ) (rule : Rule) → SaysTests text tests → entry < tests → k < 7 → n ≡ 5 + 7 * entry + k → IsAsked text rule n
    → (number_of rule ≡ k + 6) ⊎ ((k ≡ 0) × (number_of rule ≡ 5))
asked_entry text tests entry k n h1 says more few at asked = absurd (omega arith)
asked_entry text tests entry k n h2 says more few at asked = absurd (omega arith)
asked_entry text tests entry k n h3 says more few at asked = absurd (omega arith)
asked_entry text tests entry k n h4 says more few at asked = absurd (omega arith)
asked_entry text tests entry k n h5 says more few at asked = inr (omega (arith, asked.4), refl)
asked_entry text tests entry k n h6 says more few at asked = inl (omega (arith, asked.4))
asked_entry text tests entry k n h7 says more few at asked = inl (omega (arith, asked.4))
asked_entry text tests entry k n h8 says more few at asked = inl (omega (arith, asked.4))
asked_entry text tests entry k n h9 says more few at asked = inl (omega (arith, asked.4))
asked_entry text tests entry k n h10 says more few at asked = inl (omega (arith, asked.4))
asked_entry text tests entry k n h11 says more few at asked = inl (omega (arith, asked.4))
asked_entry text tests entry k n h12 says more few at asked = inl (omega (arith, asked.4))
asked_entry text tests entry k n h13 says more few at asked = absurd (omega (arith, asked.2, tests_same text tests asked.0 says asked.1))
asked_entry text tests entry k n h14 says more few at asked = absurd (omega (arith, asked.2, tests_same text tests asked.0 says asked.1))

-- of the line after the entries one, and of the line after that one
pub asked_after : (text : List ℕ) (tests k n : ℕ) (rule : Rule) → SaysTests text tests → n ≡ 5 + 7 * tests + k → IsAsked text rule n → number_of rule ≡ k + 13
asked_after text tests k n h1 says at asked = absurd (omega arith)
asked_after text tests k n h2 says at asked = absurd (omega arith)
asked_after text tests k n h3 says at asked = absurd (omega arith)
asked_after text tests k n h4 says at asked = absurd (omega arith)
asked_after text tests k n h5 says at asked = absurd (omega (arith, asked.3, asked.4, tests_same text tests asked.0 says asked.2))
asked_after text tests k n h6 says at asked = absurd (omega (arith, asked.3, asked.4, tests_same text tests asked.0 says asked.2))
asked_after text tests k n h7 says at asked = absurd (omega (arith, asked.3, asked.4, tests_same text tests asked.0 says asked.2))
asked_after text tests k n h8 says at asked = absurd (omega (arith, asked.3, asked.4, tests_same text tests asked.0 says asked.2))
asked_after text tests k n h9 says at asked = absurd (omega (arith, asked.3, asked.4, tests_same text tests asked.0 says asked.2))
asked_after text tests k n h10 says at asked = absurd (omega (arith, asked.3, asked.4, tests_same text tests asked.0 says asked.2))
asked_after text tests k n h11 says at asked = absurd (omega (arith, asked.3, asked.4, tests_same text tests asked.0 says asked.2))
asked_after text tests k n h12 says at asked = absurd (omega (arith, asked.3, asked.4, tests_same text tests asked.0 says asked.2))
asked_after text tests k n h13 says at asked = omega (arith, asked.2, tests_same text tests asked.0 says asked.1)
asked_after text tests k n h14 says at asked = omega (arith, asked.2, tests_same text tests asked.0 says asked.1)

of_entry : (text : List ℕ) (tests n k : ℕ) → SaysTests text tests → k < 7 → IsOfEntry text k n → n ≤ 6 + 7 * tests
of_entry text tests n k says few asked = omega (arith, asked.3, asked.4, tests_same text tests asked.0 says asked.2)

-- no rule is asked of a line beyond
pub asked_within : (text : List ℕ) (tests n : ℕ) (rule : Rule) → SaysTests text tests → IsAsked text rule n → n ≤ 6 + 7 * tests
asked_within text tests n h1 says asked = omega arith
asked_within text tests n h2 says asked = omega arith
asked_within text tests n h3 says asked = omega arith
asked_within text tests n h4 says asked = omega arith
asked_within text tests n h5 says asked = of_entry text tests n 0 says (omega arith) asked
asked_within text tests n h6 says asked = of_entry text tests n 0 says (omega arith) asked
asked_within text tests n h7 says asked = of_entry text tests n 1 says (omega arith) asked
asked_within text tests n h8 says asked = of_entry text tests n 2 says (omega arith) asked
asked_within text tests n h9 says asked = of_entry text tests n 3 says (omega arith) asked
asked_within text tests n h10 says asked = of_entry text tests n 4 says (omega arith) asked
asked_within text tests n h11 says asked = of_entry text tests n 5 says (omega arith) asked
asked_within text tests n h12 says asked = of_entry text tests n 6 says (omega arith) asked
asked_within text tests n h13 says asked = omega (arith, asked.2, tests_same text tests asked.0 says asked.1)
asked_within text tests n h14 says asked = omega (arith, asked.2, tests_same text tests asked.0 says asked.1)

pub asked_some : (text : List ℕ) (n : ℕ) (rule : Rule) → IsAsked text rule n → 1 ≤ n
asked_some text n h1 asked = omega arith
asked_some text n h2 asked = omega arith
asked_some text n h3 asked = omega arith
asked_some text n h4 asked = omega arith
asked_some text n h5 asked = omega (arith, asked.4)
asked_some text n h6 asked = omega (arith, asked.4)
asked_some text n h7 asked = omega (arith, asked.4)
asked_some text n h8 asked = omega (arith, asked.4)
asked_some text n h9 asked = omega (arith, asked.4)
asked_some text n h10 asked = omega (arith, asked.4)
asked_some text n h11 asked = omega (arith, asked.4)
asked_some text n h12 asked = omega (arith, asked.4)
asked_some text n h13 asked = omega (arith, asked.2)
asked_some text n h14 asked = omega (arith, asked.2)
