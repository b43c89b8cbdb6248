-- A name is counted where it stands in the list.
use Rattle.std.proofs.Common.{◌≡◌, ◌∙◌, refl, ap, arith, ℕ, ◌+◌, List, [], ◌∷◌, Bool, true, false, ◌||◌, nat_lt, count_by, if◌then◌else◌}
use Rattle.std.specs.List.{list_any}
use Rattle.std.proofs.lemmas.Bool.Decides.{nat_tests}
use Rattle.std.proofs.lemmas.List.Sums.{sum_by-cons}

some_more : (n : ℕ) → nat_lt 0 (1 + n) ≡ true
some_more n = grind (arith, nat_tests)

none_more : (n : ℕ) → 0 + n ≡ n
none_more n = omega arith

pub any_counted : {X : Type 0} (p : X → Bool) (xs : List X) → nat_lt 0 (count_by p xs) ≡ list_any p xs
any_counted p [] = refl
any_counted p (x ∷ xs) = ap (λ n. nat_lt 0 n) (sum_by-cons (λ y. if p y then 1 else 0) x xs) ∙ by (p x) (any_counted p xs)
  where
    by : (b : Bool) → nat_lt 0 (count_by p xs) ≡ list_any p xs → nat_lt 0 ((if b then 1 else 0) + count_by p xs) ≡ (b || list_any p xs)
    by true h = some_more (count_by p xs)
    by false h = ap (λ n. nat_lt 0 n) (none_more (count_by p xs)) ∙ h
