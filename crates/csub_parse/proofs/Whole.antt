-- What is read as a whole is what the tokens spell, and what is refused no unit spells.
use Rattle.std.proofs.Common.{◌≡◌, ℕ, suc, ◌+◌, ◌-◌, ◌<◌, ◌≤◌, List, [], ◌∷◌, ◌++◌, length, take, Ok, Err, refl, sym, ap, subst, ◌∙◌, arith, append_assoc, length-append}
use Rattle.std.proofs.Math.Seq.{take-append-add}
use Rattle.csub_lex.specs.declared.token.Token.{Token}
use Rattle.csub_tree.specs.Units.{Source}
use Rattle.csub_expr.proofs.LawsAnswers.{ok_value}
use Rattle.csub_expr.specs.Laws.{head}
use Rattle.csub_parse.specs.Syntax.{Within, NoneBegins, NoneSpells}
use Rattle.csub_parse.specs.UnitDescent.{read_unit}
use Rattle.csub_parse.proofs.UnitSound.{unit_sound}
use Rattle.csub_parse.proofs.UnitLocal.{local_unit}
use Rattle.csub_parse.proofs.UnitComplete.{unit_reads}

module _ (d : ℕ) where
  pub whole_spelled : (ts : List Token) (u : Source) (r : List Token) → read_unit d ts ≡ Ok (u, r) → Within d u ts
  whole_spelled ts u r h = let t = unit_sound d ts u r h in (t.fits, t.spelled)

  pub whole_again : (ts : List Token) (u : Source) → Within d u ts → read_unit d ts ≡ Ok (u, [])
  whole_again ts u w = unit_reads d w.1 w.0

  pub whole_only : (ts : List Token) (u other : Source) (r : List Token) → read_unit d ts ≡ Ok (u, r) → Within d other ts → other ≡ u
  whole_only ts u other r h w = ok_value other u [] r (sym (whole_again ts other w) ∙ h)

  none_here : (ts : List Token) (n : ℕ) → read_unit d ts ≡ Err n → NoneSpells d ts
  none_here ts n h u w = let again = whole_again ts u w in absurd (cc (sym again ∙ h))

  -- where the token t was refused behind s
  none_begins : (s more : List Token) (t : Token) (n : ℕ) → read_unit d (s ++ t ∷ more) ≡ Err n → (u : Source) → Within d u ((s ++ t ∷ []) ++ more) → ⊥
  none_begins s more t n h u w =
      let shape : (s ++ t ∷ []) ++ more ≡ s ++ (t ∷ more) = append_assoc s (t ∷ []) more in
      none_here (s ++ t ∷ more) n h u (subst (λ (v : List Token). Within d u v) shape w)

  take_one_more : (s : List Token) (t : Token) (r : List Token) → take (length s + 1) (s ++ t ∷ r) ≡ s ++ t ∷ []
  take_one_more s t r = take-append-add s (t ∷ r) 1

  pub refused : (ts : List Token) (n : ℕ) → read_unit d ts ≡ Err n → (n ≤ length ts) × (length ts - n < length ts → NoneBegins d (length ts - n) ts) × NoneSpells d ts
  refused ts n h =
      let a = (local_unit d).refuses ts n h in
      go a.0 a.1 a.2 a.3 a.4
    where
      go : (s r : List Token) → ts ≡ s ++ r → n ≡ length r → ((q : List Token) → head q ≡ head r → read_unit d (s ++ q) ≡ Err (length q)) → (n ≤ length ts) × (length ts - n < length ts → NoneBegins d (length ts - n) ts) × NoneSpells d ts
      go s [] parts len again = (omega (arith, len), (λ lt. absurd (omega (arith, len))), none_here ts n h)
      go s (t ∷ r) parts len again =
          let total : length ts ≡ length s + suc (length r) = ap length parts ∙ length-append s (t ∷ r) in
          let place : length ts - n ≡ length s = omega arith in
          let same : take (length ts - n + 1) ts ≡ s ++ t ∷ [] = ap (λ k. take (k + 1) ts) place ∙ ap (λ (u : List Token). take (length s + 1) u) parts ∙ take_one_more s t r in
          (omega arith, (λ lt u more w. none_begins s more t (length (t ∷ more)) (again (t ∷ more) refl) u (subst (λ (v : List Token). Within d u (v ++ more)) same w)), none_here ts n h)
