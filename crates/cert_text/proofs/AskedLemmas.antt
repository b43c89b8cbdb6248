-- Which rule is asked of a line.
use Rattle.std.proofs.Common.{◌≡◌, ◌<◌, ◌≤◌, ◌+◌, ℕ, List, [], ◌∷◌, get_or, codes, refl, sym, ap, subst, ◌∙◌, arith}
use Rattle.std.specs.Fmt.{decimal}
use Rattle.std.proofs.lemmas.Fmt.{decimal_injective}
use Rattle.cert_text.specs.declared.bounds.Bounds.{Bounds}
use Rattle.line_text.specs.Values.{HasNumber}
use Rattle.cert_text.specs.Rules.{Rule, c1, c2, c3, c4, c5, c6, c7, c8, c9, number_of, IsAsked, SaysEdges, SaysPairs}
use Rattle.line_text.proofs.LawsOfValues.{one_value}

-- a rule is known by its number
rule_of : ℕ → Rule
rule_of n = get_or (c1 ∷ c1 ∷ c2 ∷ c3 ∷ c4 ∷ c5 ∷ c6 ∷ c7 ∷ c8 ∷ c9 ∷ []) n c1

rule_of-number : (rule : Rule) → rule_of (number_of rule) ≡ rule
unfolding rule_of
rule_of-number c1 = refl
rule_of-number c2 = refl
rule_of-number c3 = refl
rule_of-number c4 = refl
rule_of-number c5 = refl
rule_of-number c6 = refl
rule_of-number c7 = refl
rule_of-number c8 = refl
rule_of-number c9 = refl

pub same_rule : (a b : Rule) → number_of a ≡ number_of b → a ≡ b
same_rule a b is = sym (rule_of-number a) ∙ ap rule_of is ∙ rule_of-number b

-- the one rule that is asked of a line
pub record IsOnly (bounds : Bounds) (text : List ℕ) (n : ℕ) (rule : Rule) : Type 0 where
  pub asked : IsAsked bounds text rule n
  pub only : (other : Rule) → IsAsked bounds text other n → other ≡ rule

-- what is said of edges and of pairs is said of one number
pub edges_same : (bounds : Bounds) (text : List ℕ) (a b : ℕ) → bounds.edges ≤ 10000 → SaysEdges bounds text a → SaysEdges bounds text b → a ≡ b
edges_same bounds text a b small one other = decimal_injective a b (omega (arith, one.0)) (omega (arith, other.0)) (one_value text 4 (codes "dangerous") (decimal a) (decimal b) one.1 other.1)

pub pairs_same : (bounds : Bounds) (text : List ℕ) (edges a other b : ℕ) → bounds.edges ≤ 10000 → SaysPairs bounds text edges a → SaysPairs bounds text other b → a ≡ b
pairs_same bounds text edges a other b small one two =
    let same : edges ≡ other = edges_same bounds text edges other small one.0 two.0 in
    let here : HasNumber text (5 + other) (codes "pairs") 100000000 a = subst (λ e. HasNumber text (5 + e) (codes "pairs") 100000000 a) same one.1 in
    decimal_injective a b (omega (arith, here.0)) (omega (arith, two.1.0)) (one_value text (5 + other) (codes "pairs") (decimal a) (decimal b) here.1 two.1.1)

-- of each of the first four lines
pub asked_head : (bounds : Bounds) (text : List ℕ) (n : ℕ) (rule : Rule) → n ≤ 4 → IsAsked bounds text rule n → number_of rule ≡ n
asked_head bounds text n c1 few asked = omega arith
asked_head bounds text n c2 few asked = omega arith
asked_head bounds text n c3 few asked = omega arith
asked_head bounds text n c4 few asked = omega arith
asked_head bounds text n c5 few asked = omega (arith, asked.2)
asked_head bounds text n c6 few asked = omega (arith, asked.2)
asked_head bounds text n c7 few asked = omega (arith, asked.3)
asked_head bounds text n c8 few asked = omega (arith, asked.3)
asked_head bounds text n c9 few asked = omega (arith, asked.3)

-- of the line of an edge
pub asked_edge : (bounds : Bounds) (text : List ℕ) (edges n : ℕ) (rule : Rule) → bounds.edges ≤ 10000 → SaysEdges bounds text edges → 4 < n → n ≤ 4 + edges → IsAsked bounds text rule n → number_of rule ≡ 5
asked_edge bounds text edges n c1 small says low high asked = absurd (omega arith)
asked_edge bounds text edges n c2 small says low high asked = absurd (omega arith)
asked_edge bounds text edges n c3 small says low high asked = absurd (omega arith)
asked_edge bounds text edges n c4 small says low high asked = absurd (omega arith)
asked_edge bounds text edges n c5 small says low high asked = refl
asked_edge bounds text edges n c6 small says low high asked = absurd (omega (arith, asked.2, edges_same bounds text asked.0 edges small asked.1 says))
asked_edge bounds text edges n c7 small says low high asked = absurd (omega (arith, asked.3, edges_same bounds text asked.0 edges small asked.2.0 says))
asked_edge bounds text edges n c8 small says low high asked = absurd (omega (arith, asked.3, edges_same bounds text asked.0 edges small asked.2.0 says))
asked_edge bounds text edges n c9 small says low high asked = absurd (omega (arith, asked.3, edges_same bounds text asked.0 edges small asked.2.0 says))

-- of the line of the number of pairs
pub asked_count : (bounds : Bounds) (text : List ℕ) (edges n : ℕ) (rule : Rule) → bounds.edges ≤ 10000 → SaysEdges bounds text edges → n ≡ 5 + edges → IsAsked bounds text rule n → number_of rule ≡ 6
asked_count bounds text edges n c1 small says at asked = absurd (omega arith)
asked_count bounds text edges n c2 small says at asked = absurd (omega arith)
asked_count bounds text edges n c3 small says at asked = absurd (omega arith)
asked_count bounds text edges n c4 small says at asked = absurd (omega arith)
asked_count bounds text edges n c5 small says at asked = absurd (omega (arith, asked.3, edges_same bounds text asked.0 edges small asked.1 says))
asked_count bounds text edges n c6 small says at asked = refl
asked_count bounds text edges n c7 small says at asked = absurd (omega (arith, asked.3, edges_same bounds text asked.0 edges small asked.2.0 says))
asked_count bounds text edges n c8 small says at asked = absurd (omega (arith, asked.3, edges_same bounds text asked.0 edges small asked.2.0 says))
asked_count bounds text edges n c9 small says at asked = absurd (omega (arith, asked.3, edges_same bounds text asked.0 edges small asked.2.0 says))

-- of the line of a pair
pub asked_pair : (bounds : Bounds) (text : List ℕ) (edges pairs n : ℕ) (rule : Rule) → bounds.edges ≤ 10000 → SaysPairs bounds text edges pairs → 5 + edges < n → n ≤ 5 + edges + pairs → IsAsked bounds text rule n → number_of rule ≡ 7
asked_pair bounds text edges pairs n c1 small says low high asked = absurd (omega arith)
asked_pair bounds text edges pairs n c2 small says low high asked = absurd (omega arith)
asked_pair bounds text edges pairs n c3 small says low high asked = absurd (omega arith)
asked_pair bounds text edges pairs n c4 small says low high asked = absurd (omega arith)
asked_pair bounds text edges pairs n c5 small says low high asked = absurd (omega (arith, asked.3, edges_same bounds text asked.0 edges small asked.1 says.0))
asked_pair bounds text edges pairs n c6 small says low high asked = absurd (omega (arith, asked.2, edges_same bounds text asked.0 edges small asked.1 says.0))
asked_pair bounds text edges pairs n c7 small says low high asked = refl
asked_pair bounds text edges pairs n c8 small says low high asked = absurd (omega (arith, asked.3, edges_same bounds text asked.0 edges small asked.2.0 says.0, pairs_same bounds text asked.0 asked.1 edges pairs small asked.2 says))
asked_pair bounds text edges pairs n c9 small says low high asked = absurd (omega (arith, asked.3, edges_same bounds text asked.0 edges small asked.2.0 says.0, pairs_same bounds text asked.0 asked.1 edges pairs small asked.2 says))

-- of the line after those of the pairs, and of the next
pub asked_end : (bounds : Bounds) (text : List ℕ) (edges pairs n : ℕ) (rule : Rule) → bounds.edges ≤ 10000 → SaysPairs bounds text edges pairs → n ≡ 6 + edges + pairs → IsAsked bounds text rule n → number_of rule ≡ 8
asked_end bounds text edges pairs n c1 small says at asked = absurd (omega arith)
asked_end bounds text edges pairs n c2 small says at asked = absurd (omega arith)
asked_end bounds text edges pairs n c3 small says at asked = absurd (omega arith)
asked_end bounds text edges pairs n c4 small says at asked = absurd (omega arith)
asked_end bounds text edges pairs n c5 small says at asked = absurd (omega (arith, asked.3, edges_same bounds text asked.0 edges small asked.1 says.0))
asked_end bounds text edges pairs n c6 small says at asked = absurd (omega (arith, asked.2, edges_same bounds text asked.0 edges small asked.1 says.0))
asked_end bounds text edges pairs n c7 small says at asked = absurd (omega (arith, asked.3, asked.4, edges_same bounds text asked.0 edges small asked.2.0 says.0, pairs_same bounds text asked.0 asked.1 edges pairs small asked.2 says))
asked_end bounds text edges pairs n c8 small says at asked = refl
asked_end bounds text edges pairs n c9 small says at asked = absurd (omega (arith, asked.3, edges_same bounds text asked.0 edges small asked.2.0 says.0, pairs_same bounds text asked.0 asked.1 edges pairs small asked.2 says))

pub asked_after : (bounds : Bounds) (text : List ℕ) (edges pairs n : ℕ) (rule : Rule) → bounds.edges ≤ 10000 → SaysPairs bounds text edges pairs → n ≡ 7 + edges + pairs → IsAsked bounds text rule n → number_of rule ≡ 9
asked_after bounds text edges pairs n c1 small says at asked = absurd (omega arith)
asked_after bounds text edges pairs n c2 small says at asked = absurd (omega arith)
asked_after bounds text edges pairs n c3 small says at asked = absurd (omega arith)
asked_after bounds text edges pairs n c4 small says at asked = absurd (omega arith)
asked_after bounds text edges pairs n c5 small says at asked = absurd (omega (arith, asked.3, edges_same bounds text asked.0 edges small asked.1 says.0))
asked_after bounds text edges pairs n c6 small says at asked = absurd (omega (arith, asked.2, edges_same bounds text asked.0 edges small asked.1 says.0))
asked_after bounds text edges pairs n c7 small says at asked = absurd (omega (arith, asked.3, asked.4, edges_same bounds text asked.0 edges small asked.2.0 says.0, pairs_same bounds text asked.0 asked.1 edges pairs small asked.2 says))
asked_after bounds text edges pairs n c8 small says at asked = absurd (omega (arith, asked.3, edges_same bounds text asked.0 edges small asked.2.0 says.0, pairs_same bounds text asked.0 asked.1 edges pairs small asked.2 says))
asked_after bounds text edges pairs n c9 small says at asked = refl

-- of no line beyond
pub asked_within : (bounds : Bounds) (text : List ℕ) (edges pairs n : ℕ) (rule : Rule) → bounds.edges ≤ 10000 → SaysPairs bounds text edges pairs → IsAsked bounds text rule n → n ≤ 7 + edges + pairs
asked_within bounds text edges pairs n c1 small says asked = omega arith
asked_within bounds text edges pairs n c2 small says asked = omega arith
asked_within bounds text edges pairs n c3 small says asked = omega arith
asked_within bounds text edges pairs n c4 small says asked = omega arith
asked_within bounds text edges pairs n c5 small says asked = omega (arith, asked.3, edges_same bounds text asked.0 edges small asked.1 says.0)
asked_within bounds text edges pairs n c6 small says asked = omega (arith, asked.2, edges_same bounds text asked.0 edges small asked.1 says.0)
asked_within bounds text edges pairs n c7 small says asked = omega (arith, asked.3, asked.4, edges_same bounds text asked.0 edges small asked.2.0 says.0, pairs_same bounds text asked.0 asked.1 edges pairs small asked.2 says)
asked_within bounds text edges pairs n c8 small says asked = omega (arith, asked.3, edges_same bounds text asked.0 edges small asked.2.0 says.0, pairs_same bounds text asked.0 asked.1 edges pairs small asked.2 says)
asked_within bounds text edges pairs n c9 small says asked = omega (arith, asked.3, edges_same bounds text asked.0 edges small asked.2.0 says.0, pairs_same bounds text asked.0 asked.1 edges pairs small asked.2 says)

pub asked_some : (bounds : Bounds) (text : List ℕ) (n : ℕ) (rule : Rule) → IsAsked bounds text rule n → 1 ≤ n
asked_some bounds text n c1 asked = omega arith
asked_some bounds text n c2 asked = omega arith
asked_some bounds text n c3 asked = omega arith
asked_some bounds text n c4 asked = omega arith
asked_some bounds text n c5 asked = omega (arith, asked.2)
asked_some bounds text n c6 asked = omega (arith, asked.2)
asked_some bounds text n c7 asked = omega (arith, asked.3)
asked_some bounds text n c8 asked = omega (arith, asked.3)
asked_some bounds text n c9 asked = omega (arith, asked.3)

-- two rules that are asked of one line are one
pub asked_once : (bounds : Bounds) (text : List ℕ) (n : ℕ) (rule other : Rule) → bounds.edges ≤ 10000 → IsAsked bounds text rule n → IsAsked bounds text other n → number_of other ≡ number_of rule
asked_once bounds text n c1 other small asked also = asked_head bounds text n other (omega arith) also ∙ omega arith
asked_once bounds text n c2 other small asked also = asked_head bounds text n other (omega arith) also ∙ omega arith
asked_once bounds text n c3 other small asked also = asked_head bounds text n other (omega arith) also ∙ omega arith
asked_once bounds text n c4 other small asked also = asked_head bounds text n other (omega arith) also ∙ omega arith
asked_once bounds text n c5 other small asked also = asked_edge bounds text asked.0 n other small asked.1 asked.2 asked.3 also
asked_once bounds text n c6 other small asked also = asked_count bounds text asked.0 n other small asked.1 asked.2 also
asked_once bounds text n c7 other small asked also = asked_pair bounds text asked.0 asked.1 n other small asked.2 asked.3 asked.4 also
asked_once bounds text n c8 other small asked also = asked_end bounds text asked.0 asked.1 n other small asked.2 asked.3 also
asked_once bounds text n c9 other small asked also = asked_after bounds text asked.0 asked.1 n other small asked.2 asked.3 also

-- the one rule of each place
pub only_head : (bounds : Bounds) (text : List ℕ) (n : ℕ) (rule : Rule) → n ≤ 4 → IsAsked bounds text rule n → IsOnly bounds text n rule
only_head bounds text n rule few asked = record {
  asked = asked;
  only = λ other also. same_rule other rule (asked_head bounds text n other few also ∙ sym (asked_head bounds text n rule few asked));
}

pub only_one : (bounds : Bounds) (text : List ℕ) (n : ℕ) (rule : Rule) → bounds.edges ≤ 10000 → IsAsked bounds text rule n → IsOnly bounds text n rule
only_one bounds text n rule small asked = record { asked = asked; only = λ other also. same_rule other rule (asked_once bounds text n rule other small asked also) }
