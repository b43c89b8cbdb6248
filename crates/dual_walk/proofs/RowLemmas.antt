-- Lists by numbers, as one of them grows or is emptied.
use Rattle.std.proofs.Common.{◌≡◌, ℕ, ◌<◌, List, [], ◌∷◌, ◌++◌, length, get_or, set, replicate, Some, sym, ap, ◌∙◌, subst, ◌⊎◌, inl, inr}
use Rattle.std.specs.Prelude.{slice_get}
use Rattle.std.proofs.lemmas.Bool.{cases_eq}
use Rattle.std.proofs.lemmas.Option.{slice_get-get_or, same_Some}
use Rattle.std.proofs.Math.ListN.{length-set}
use Rattle.dual_walk.specs.Rows.{Lists}
use Rattle.dual_walk.proofs.LawsLists.{get_left, get_push, get_last, get_set_same, get_set_other, same_replicated}

-- no number stands in empty lists
pub lists_none : (c n x : ℕ) → Lists (replicate c []) n x → ⊥
lists_none c n x h =
    let none : h.row ≡ [] = same_replicated c n [] h.row h.stands in
    let at : slice_get [] h.place ≡ Some x = subst (λ l. slice_get l h.place ≡ Some x) none h.is in cc

-- one more number
module _ (rows rows' : List (List ℕ)) (at value : ℕ) (within : at < length rows) (is : rows' ≡ set rows at (get_or rows at [] ++ value ∷ [])) where
  pub lists_long : length rows' ≡ length rows
  lists_long = ap length is ∙ length-set rows at (get_or rows at [] ++ value ∷ [])

  here : slice_get rows' at ≡ Some (get_or rows at [] ++ value ∷ [])
  here = ap (λ l. slice_get l at) is ∙ get_set_same rows at (get_or rows at [] ++ value ∷ []) within

  there : (n : ℕ) → (n ≡ at → ⊥) → slice_get rows' n ≡ slice_get rows n
  there n other = ap (λ l. slice_get l n) is ∙ get_set_other rows at n (get_or rows at [] ++ value ∷ []) other

  before : slice_get rows at ≡ Some (get_or rows at [])
  before = slice_get-get_or rows at [] within

  pub lists_added : Lists rows' at value
  lists_added = record { row = get_or rows at [] ++ value ∷ []; stands = here; place = length (get_or rows at []); is = get_last (get_or rows at []) value }

  pub lists_kept : (n x : ℕ) → Lists rows n x → Lists rows' n x
  lists_kept n x h = pick (cases_eq n at)
    where
      pick : (n ≡ at) ⊎ (n ≡ at → ⊥) → Lists rows' n x
      pick (inl e) =
          let row : h.row ≡ get_or rows at [] = same_Some _ _ (sym h.stands ∙ ap (slice_get rows) e ∙ before) in
          record {
            row = get_or rows at [] ++ value ∷ [];
            stands = ap (slice_get rows') e ∙ here;
            place = h.place;
            is = get_left (get_or rows at []) (value ∷ []) h.place x (subst (λ l. slice_get l h.place ≡ Some x) row h.is);
          }
      pick (inr o) = record { row = h.row; stands = there n o ∙ h.stands; place = h.place; is = h.is }

  pub lists_cases : (n x : ℕ) → Lists rows' n x → Lists rows n x ⊎ ((n ≡ at) × (x ≡ value))
  lists_cases n x h = pick (cases_eq n at)
    where
      last : n ≡ at → (slice_get (get_or rows at []) h.place ≡ Some x) ⊎ ((h.place ≡ length (get_or rows at [])) × (x ≡ value)) → Lists rows n x ⊎ ((n ≡ at) × (x ≡ value))
      last e (inl g) = inl (record { row = get_or rows at []; stands = ap (slice_get rows) e ∙ before; place = h.place; is = g })
      last e (inr g) = inr (e, g.1)

      pick : (n ≡ at) ⊎ (n ≡ at → ⊥) → Lists rows n x ⊎ ((n ≡ at) × (x ≡ value))
      pick (inl e) =
          let row : h.row ≡ get_or rows at [] ++ value ∷ [] = same_Some _ _ (sym h.stands ∙ ap (slice_get rows') e ∙ here) in
          last e (get_push (get_or rows at []) value h.place x (subst (λ l. slice_get l h.place ≡ Some x) row h.is))
      pick (inr o) = inl (record { row = h.row; stands = sym (there n o) ∙ h.stands; place = h.place; is = h.is })

-- an emptied list
module _ (rows rows' : List (List ℕ)) (at : ℕ) (within : at < length rows) (is : rows' ≡ set rows at []) where
  pub cleared_long : length rows' ≡ length rows
  cleared_long = ap length is ∙ length-set rows at []

  emptied : slice_get rows' at ≡ Some []
  emptied = ap (λ l. slice_get l at) is ∙ get_set_same rows at [] within

  others : (n : ℕ) → (n ≡ at → ⊥) → slice_get rows' n ≡ slice_get rows n
  others n other = ap (λ l. slice_get l n) is ∙ get_set_other rows at n [] other

  pub cleared_none : (x : ℕ) → Lists rows' at x → ⊥
  cleared_none x h =
      let none : h.row ≡ [] = same_Some _ _ (sym h.stands ∙ emptied) in
      let there : slice_get [] h.place ≡ Some x = subst (λ l. slice_get l h.place ≡ Some x) none h.is in cc

  pub cleared_kept : (n x : ℕ) → (n ≡ at → ⊥) → Lists rows n x → Lists rows' n x
  cleared_kept n x other h = record { row = h.row; stands = others n other ∙ h.stands; place = h.place; is = h.is }

  pub cleared_fewer : (n x : ℕ) → Lists rows' n x → Lists rows n x
  cleared_fewer n x h = pick (cases_eq n at)
    where
      pick : (n ≡ at) ⊎ (n ≡ at → ⊥) → Lists rows n x
      pick (inl e) = absurd (cleared_none x (subst (λ m. Lists rows' m x) e h))
      pick (inr o) = record { row = h.row; stands = sym (others n o) ∙ h.stands; place = h.place; is = h.is }
