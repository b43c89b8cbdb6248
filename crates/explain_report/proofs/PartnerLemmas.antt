-- Which new points a list of facts holds with an old one, fact by fact.
use Rattle.std.proofs.Common.{◌≡◌, ℕ, ◌+◌, ◌<◌, Bool, true, false, IsTrue, List, [], ◌∷◌, ◌++◌, length, get_or, set, take, Some, refl, sym, ap, ◌∙◌, subst, ◌⊎◌, inl, inr, arith, get_or-set_same, get_or-set_other}
use Rattle.std.specs.Prelude.{slice_get}
use Rattle.std.proofs.lemmas.Bool.{cases_eq}
use Rattle.std.proofs.lemmas.List.{take_more}
use Rattle.std.proofs.Math.ListN.{length-set}
use Rattle.edge_trace.specs.Rows.{has}
use Rattle.dual_walk.specs.declared.fact.Fact.{Fact}
use Rattle.dual_walk.specs.Held.{HasPair}
use Rattle.explain_report.specs.Dangers.{ArePartners}
use Rattle.dual_walk.proofs.LawsLists.{get_push, get_left, get_last}

-- one more fact: a pair of the facts with it is one of theirs, or its own
module _ (facts : List Fact) (n : ℕ) (c : Fact) where
  pair_cases : (n' : ℕ) → HasPair (facts ++ c ∷ []) n n' → HasPair facts n n' ⊎ ((c.old ≡ n) × (c.new ≡ n'))
  pair_cases n' h = pick (get_push facts c h.place h.fact h.stands)
    where
      pick : (slice_get facts h.place ≡ Some h.fact) ⊎ ((h.place ≡ length facts) × (h.fact ≡ c)) → HasPair facts n n' ⊎ ((c.old ≡ n) × (c.new ≡ n'))
      pick (inl e) = inl (record { place = h.place; fact = h.fact; stands = e; old = h.old; new = h.new })
      pick (inr e) = inr (ap (λ (d : Fact). d.old) (sym e.1) ∙ h.old, ap (λ (d : Fact). d.new) (sym e.1) ∙ h.new)

  pair_kept : (n' : ℕ) → HasPair facts n n' → HasPair (facts ++ c ∷ []) n n'
  pair_kept n' h = record { place = h.place; fact = h.fact; stands = get_left facts (c ∷ []) h.place h.fact h.stands; old = h.old; new = h.new }

  pair_last : c.old ≡ n → HasPair (facts ++ c ∷ []) n c.new
  pair_last e = record { place = length facts; fact = c; stands = get_last facts c; old = e; new = refl }

  partners_marked : (partners : List Bool) → c.old ≡ n → c.new < length partners → ArePartners facts n partners → ArePartners (facts ++ c ∷ []) n (set partners c.new true)
  partners_marked partners e l are n' = (to (cases_eq n' c.new), λ h. from (pair_cases n' h) (cases_eq n' c.new))
    where
      to : (n' ≡ c.new) ⊎ (n' ≡ c.new → ⊥) → IsTrue (has (set partners c.new true) n') → HasPair (facts ++ c ∷ []) n n'
      to (inl same) h = subst (HasPair (facts ++ c ∷ []) n) (sym same) (pair_last e)
      to (inr other) h = pair_kept n' ((are n').0 (sym (get_or-set_other partners c.new n' true false other) ∙ h))

      from : HasPair facts n n' ⊎ ((c.old ≡ n) × (c.new ≡ n')) → (n' ≡ c.new) ⊎ (n' ≡ c.new → ⊥) → IsTrue (has (set partners c.new true) n')
      from h (inl same) = ap (has (set partners c.new true)) same ∙ get_or-set_same partners c.new true false l
      from (inl h) (inr other) = get_or-set_other partners c.new n' true false other ∙ (are n').1 h
      from (inr h) (inr other) = absurd (other (sym h.1))

  partners_passed : (partners : List Bool) → (c.old ≡ n → ⊥) → ArePartners facts n partners → ArePartners (facts ++ c ∷ []) n partners
  partners_passed partners other are n' = ((λ h. pair_kept n' ((are n').0 h)), λ h. from (pair_cases n' h))
    where
      from : HasPair facts n n' ⊎ ((c.old ≡ n) × (c.new ≡ n')) → IsTrue (has partners n')
      from (inl h) = (are n').1 h
      from (inr h) = absurd (other h.0)

-- the partners among the first facts of a list, with a flag for each of so many points
pub record PartnersTo (facts : List Fact) (n points i : ℕ) (partners : List Bool) : Type 0 where
  pub long : length partners ≡ points
  pub are : ArePartners (take i facts) n partners

module _ (facts : List Fact) (n points i : ℕ) (d : Fact) (partners : List Bool) (within : i < length facts) where
  next : take (i + 1) facts ≡ take i facts ++ get_or facts i d ∷ []
  next = take_more facts i d within

  pub marked_next : (get_or facts i d).old ≡ n → (get_or facts i d).new < points → PartnersTo facts n points i partners → PartnersTo facts n points (i + 1) (set partners (get_or facts i d).new true)
  marked_next e l h = record {
    long = length-set partners (get_or facts i d).new true ∙ h.long;
    are = subst (λ seen. ArePartners seen n (set partners (get_or facts i d).new true)) (sym next) (partners_marked (take i facts) n (get_or facts i d) partners e (omega (arith, h.long)) h.are);
  }

  pub passed_next : ((get_or facts i d).old ≡ n → ⊥) → PartnersTo facts n points i partners → PartnersTo facts n points (i + 1) partners
  passed_next other h = record { long = h.long; are = subst (λ seen. ArePartners seen n partners) (sym next) (partners_passed (take i facts) n (get_or facts i d) partners other h.are) }
