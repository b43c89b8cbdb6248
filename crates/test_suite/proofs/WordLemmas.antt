-- The pieces of a line that were cut off one by one.
use Rattle.std.proofs.Common.{◌≡◌, ◌≢◌, ℕ, true, false, eqb, List, [], ◌∷◌, length, codes, Option, Some, None, MatchOption, sym, ap, ◌∙◌, arith}
use Rattle.std.specs.Option.{is_some}
use Rattle.std.proofs.lemmas.List.Elements.{All-nil, All-cons}
use Rattle.std.proofs.lemmas.List.Splits.{length-slice_split}
use Rattle.line_text.specs.Words.{pieces}
use Rattle.test_suite.specs.Rules.{HasWords}

-- a line has a piece at least
some_piece : (line : List ℕ) → pieces line ≢ []
some_piece line none = omega (arith, length-slice_split (λ b. eqb b 32) line, ap length none)

-- a line of more than four pieces has not four words
pub too_many : {X : Type 0} (now : X → List ℕ) (line after_first after_name after_budget first name budget input : List ℕ) (rest : Option X)
    → pieces line ≡ first ∷ pieces after_first → pieces after_first ≡ name ∷ pieces after_name → pieces after_name ≡ budget ∷ pieces after_budget
    → MatchOption rest (pieces after_budget ≡ input ∷ []) (λ more. pieces after_budget ≡ input ∷ pieces (now more)) → is_some rest ≡ true
    → (w x y z : List ℕ) → pieces line ≡ w ∷ x ∷ y ∷ z ∷ [] → ⊥
too_many now line r1 r2 r3 first name budget input None one two three four some w x y z has = cc some
too_many now line r1 r2 r3 first name budget input (Some more) one two three four some w x y z has =
    let whole : pieces line ≡ first ∷ name ∷ budget ∷ input ∷ pieces (now more) =
    one ∙ ap (λ ps. first ∷ ps) (two ∙ ap (λ ps. name ∷ ps) (three ∙ ap (λ ps. budget ∷ ps) four)) in
    let none : pieces (now more) ≡ [] = cc (sym whole ∙ has) in
    some_piece (now more) none

-- four words, the first `test`
pub four_words : {X : Type 0} (now : X → List ℕ) (line after_first after_name after_budget first name budget input : List ℕ) (rest : Option X)
    → pieces line ≡ first ∷ pieces after_first → pieces after_first ≡ name ∷ pieces after_name → pieces after_name ≡ budget ∷ pieces after_budget
    → MatchOption rest (pieces after_budget ≡ input ∷ []) (λ more. pieces after_budget ≡ input ∷ pieces (now more)) → is_some rest ≡ false
    → first ≡ codes "test" → first ≢ [] → name ≢ [] → budget ≢ [] → input ≢ [] → HasWords line name budget input
four_words now line r1 r2 r3 first name budget input (Some more) one two three four none test some_first some_name some_budget some_input = cc none
four_words now line r1 r2 r3 first name budget input None one two three four none test some_first some_name some_budget some_input =
    let Some : List ℕ → Type 0 = λ word. word ≢ [] in (
      one ∙ ap (λ ps. first ∷ ps) (two ∙ ap (λ ps. name ∷ ps) (three ∙ ap (λ ps. budget ∷ ps) four)) ∙ ap (λ word. word ∷ name ∷ budget ∷ input ∷ []) test,
      All-cons Some (codes "test") (name ∷ budget ∷ input ∷ []) (λ e. some_first (test ∙ e))
          (All-cons Some name (budget ∷ input ∷ []) some_name (All-cons Some budget (input ∷ []) some_budget (All-cons Some input [] some_input (All-nil Some)))),
    )
