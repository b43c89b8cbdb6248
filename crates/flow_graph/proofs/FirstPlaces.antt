-- Places in a list, entered from behind under keys that its elements may fit: the first element that fits a key counts.
use Rattle.std.proofs.Common.{◌≡◌, ◌∙◌, ℕ, ◌+◌, ◌<◌, List, ◌∷◌, length, get_or, drop, Bool, true, false, cond, Option, Some, IfSome, sym, ap, subst}
use Rattle.std.specs.List.{slice_get, find}
use Rattle.std.specs.Option.{option_and_then}
use Rattle.std.proofs.lemmas.List.{drop_more}
use Rattle.std.proofs.lemmas.Option.{slice_get-get_or}

-- one element more, in front of those that are entered
module _ {K : Type 0} {A : Type 0} (fits : K → A → Bool) (xs : List A) (i n : ℕ) (x : A) (next : n + 1 ≡ i) (inside : n < length xs) (is : x ≡ get_or xs n x)
    (before after : K → Option ℕ) (taken : (k : K) → after k ≡ cond (fits k x) (Some n) (before k)) where
  from_here : x ∷ drop i xs ≡ drop n xs
  from_here = ap (λ m. x ∷ drop m xs) (sym next) ∙ ap (λ y. y ∷ drop (n + 1) xs) is ∙ sym (drop_more xs n x inside)

  pub found_more : ((k : K) → option_and_then (slice_get xs) (before k) ≡ find (fits k) (drop i xs)) → (k : K) → option_and_then (slice_get xs) (after k) ≡ find (fits k) (drop n xs)
  found_more found k =
      ap (option_and_then (slice_get xs)) (taken k) ∙ pick (fits k x) ∙ ap (find (fits k)) from_here
    where
      pick : (b : Bool) → option_and_then (slice_get xs) (cond b (Some n) (before k)) ≡ cond b (Some x) (find (fits k) (drop i xs))
      pick true = slice_get-get_or xs n x inside ∙ ap Some (sym is)
      pick false = found k

  pub within_more : ((k : K) → IfSome (before k) (λ m. m < length xs)) → (k : K) → IfSome (after k) (λ m. m < length xs)
  within_more within k = subst (λ o. IfSome o (λ m. m < length xs)) (sym (taken k)) (pick (fits k x))
    where
      pick : (b : Bool) → IfSome (cond b (Some n) (before k)) (λ m. m < length xs)
      pick true = inside
      pick false = within k
