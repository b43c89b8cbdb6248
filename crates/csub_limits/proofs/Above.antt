-- The first count above a limit: of two lists, and of a list that is gone through.
use Rattle.std.proofs.Common.{◌≡◌, ℕ, zero, suc, ◌+◌, ◌<◌, List, [], ◌∷◌, ◌++◌, length, drop, get_or, Option, Some, None, Bool, true, false, cond, refl, sym, ap, ◌∙◌, arith}
use Rattle.std.specs.Prelude.{nat_lt}
use Rattle.std.specs.Option.{option_or}
use Rattle.csub_limits.specs.Limits.{first_above}

option_or_cond : (b : Bool) (n : ℕ) (o p : Option ℕ) → cond b (Some n) (option_or o p) ≡ option_or (cond b (Some n) o) p
option_or_cond true n o p = refl
option_or_cond false n o p = refl

-- of two lists the first comes first
pub above_append : (m : ℕ) (xs ys : List ℕ) → first_above m (xs ++ ys) ≡ option_or (first_above m xs) (first_above m ys)
above_append m [] ys = refl
above_append m (x ∷ xs) ys = ap (λ o. cond (nat_lt m x) (Some x) o) (above_append m xs ys) ∙ option_or_cond (nat_lt m x) x (first_above m xs) (first_above m ys)

-- what is found first in two lists, where the first comes first
module _ {A : Type 0} (found : List ℕ → Option A) (joins : (xs ys : List ℕ) → found (xs ++ ys) ≡ option_or (found xs) (found ys)) where
  pub in_left : (xs ys : List ℕ) (o : Option A) (a : A) → o ≡ found xs → o ≡ Some a → Some a ≡ found (xs ++ ys)
  in_left xs ys o a e h = sym (joins xs ys ∙ ap (λ p. option_or p (found ys)) (sym e ∙ h))

  pub in_right : (xs ys : List ℕ) (o p : Option A) → o ≡ found xs → o ≡ None → p ≡ found ys → p ≡ found (xs ++ ys)
  in_right xs ys o p e h same = same ∙ sym (joins xs ys ∙ ap (λ q. option_or q (found ys)) (sym e ∙ h))

  -- what is left of a list begins with the element at hand
  module _ {X : Type 0} (all : List X → List ℕ) (one : X → List ℕ) (more : (x : X) (xs : List X) → all (x ∷ xs) ≡ one x ++ all xs) where
    found_at : (xs : List X) (i : ℕ) (x : X) → i < length xs → x ≡ get_or xs i x → found (all (drop i xs)) ≡ option_or (found (one x)) (found (all (drop (i + 1) xs)))
    found_at [] i x h e = absurd (omega arith)
    found_at (y ∷ xs) zero x h e = rw e (ap found (more y xs) ∙ joins (one y) (all xs))
    found_at (y ∷ xs) (suc i) x h e =
        let next : suc i + 1 ≡ suc (i + 1) = omega arith in
        rw next (found_at xs i x (omega arith) e)

    pub found_here : (xs : List X) (i : ℕ) (x : X) (o : Option A) (a : A) → i < length xs → x ≡ get_or xs i x → found (all xs) ≡ found (all (drop i xs))
        → o ≡ found (one x) → o ≡ Some a → Some a ≡ found (all xs)
    found_here xs i x o a h e before same is = sym (before ∙ (found_at xs i x h e ∙ ap (λ p. option_or p (found (all (drop (i + 1) xs)))) (sym same ∙ is)))

    pub none_here : (xs : List X) (i : ℕ) (x : X) (o : Option A) → i < length xs → x ≡ get_or xs i x → found (all xs) ≡ found (all (drop i xs))
        → o ≡ found (one x) → o ≡ None → found (all xs) ≡ found (all (drop (i + 1) xs))
    none_here xs i x o h e before same is = before ∙ (found_at xs i x h e ∙ ap (λ p. option_or p (found (all (drop (i + 1) xs)))) (sym same ∙ is))
