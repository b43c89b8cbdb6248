-- What holds of each element of a list, and of the one that is found.
use Rattle.std.proofs.Common.{◌≡◌, ℕ, zero, suc, List, [], ◌∷◌, ◌++◌, ◌∙◌, Bool, true, false, cond, All, Some, find, get_or, refl, sym, subst}
use Rattle.std.specs.List.{AllByRecursion, slice_get}
use Rattle.std.proofs.lemmas.Option.{same_Some, slice_get_within, slice_get-get_or}

module _ {X : Type 0} (Q : X → Type 0) where
  pub each_append : (xs ys : List X) → AllByRecursion Q xs → AllByRecursion Q ys → AllByRecursion Q (xs ++ ys)
  each_append [] ys h g = g
  each_append (x ∷ xs) ys h g = (h.0, each_append xs ys h.1 g)

  pub each_left : (xs ys : List X) → AllByRecursion Q (xs ++ ys) → AllByRecursion Q xs
  each_left [] ys h = tt
  each_left (x ∷ xs) ys h = (h.0, each_left xs ys h.1)

  pub each_right : (xs ys : List X) → AllByRecursion Q (xs ++ ys) → AllByRecursion Q ys
  each_right [] ys h = h
  each_right (x ∷ xs) ys h = each_right xs ys h.1

  pub each_weaker : (R : X → Type 0) → ((x : X) → Q x → R x) → (xs : List X) → AllByRecursion Q xs → AllByRecursion R xs
  each_weaker R f [] h = tt
  each_weaker R f (x ∷ xs) h = (f x h.0, each_weaker R f xs h.1)

-- what holds of each element holds of the one at a place
pub each_at : {X : Type 0} (Q : X → Type 0) (xs : List X) (k : ℕ) (x : X) → AllByRecursion Q xs → slice_get xs k ≡ Some x → Q x
each_at Q [] k x h e = absurd cc
each_at Q (y ∷ ys) zero x h e = subst Q (same_Some y x e) h.0
each_at Q (y ∷ ys) (suc k) x h e = each_at Q ys k x h.1 e

pub all_at : {X : Type 0} (Q : X → Type 0) (xs : List X) (k : ℕ) (x : X) → All Q xs → slice_get xs k ≡ Some x → Q x
all_at Q xs k x h e =
    let within = slice_get_within xs k x e in
    let same : get_or xs k x ≡ x = same_Some _ _ (sym (slice_get-get_or xs k x within) ∙ e) in
    subst Q same (h k x within)

-- what is found is one of the list, and passes the test
module _ {X : Type 0} (test : X → Bool) where
  pub found_each : (Q : X → Type 0) (xs : List X) (x : X) → find test xs ≡ Some x → AllByRecursion Q xs → Q x × (test x ≡ true)
  found_each Q [] x e h = cc
  found_each Q (y ∷ ys) x e h = pick (test y) refl e (λ g. found_each Q ys x g h.1)
    where
      pick : (b : Bool) → test y ≡ b → cond b (Some y) (find test ys) ≡ Some x → (find test ys ≡ Some x → Q x × (test x ≡ true)) → Q x × (test x ≡ true)
      pick true t e rest = let same : y ≡ x = cc in subst (λ z. Q z × (test z ≡ true)) same (h.0, t)
      pick false t e rest = rest e

  pub passes_found : (xs : List X) (x : X) → find test xs ≡ Some x → test x ≡ true
  passes_found [] x e = cc
  passes_found (y ∷ ys) x e = pick (test y) refl e (λ g. passes_found ys x g)
    where
      pick : (b : Bool) → test y ≡ b → cond b (Some y) (find test ys) ≡ Some x → (find test ys ≡ Some x → test x ≡ true) → test x ≡ true
      pick true t e rest = let same : y ≡ x = cc in subst (λ z. test z ≡ true) same t
      pick false t e rest = rest e
