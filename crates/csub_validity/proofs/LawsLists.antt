-- Lists of code values, read as the lists of what they stand for.
use Rattle.std.proofs.Common.{◌≡◌, ◌↔◌, ◌∙◌, ℕ, ◌<◌, ap, sym, List, [], ◌∷◌, map, length, get_or, All, AllPairs, refl, arith, subst}
use Rattle.std.proofs.lemmas.List.{get_or-map, length-map}
use Rattle.std.specs.List.{AllWithin}
use Rattle.std.proofs.lemmas.List.Elements.{All-map, at_read}

-- each element of a map
pub All-of_map : {X Y : Type 0} (P : Y → Type 0) (f : X → Y) (xs : List X) → All P (map f xs) ↔ All (λ x. P (f x)) xs
All-of_map P f xs =
    (λ h k d below. subst P (get_or-map f xs k d (f d) below) (h k (f d) (rw (length-map xs f) below)), λ h. All-map P f xs h)

pairs_of_map : {X Y : Type 0} (R : Y → Y → Type 0) (f : X → Y) (xs : List X) → AllPairs R (map f xs) → AllPairs (λ x y. R (f x) (f y)) xs
pairs_of_map R f xs h i j d less below =
    let there : i < length xs = omega arith in
    let pair = h i j (f d) less (rw (length-map xs f) below) in
    rw (get_or-map f xs i d (f d) there, get_or-map f xs j d (f d) below) at pair

pairs_in_map : {X Y : Type 0} (R : Y → Y → Type 0) (f : X → Y) (xs : List X) → AllPairs (λ x y. R (f x) (f y)) xs → AllPairs R (map f xs)
pairs_in_map R f [] h i j d less below = absurd (omega arith)
pairs_in_map R f (x ∷ xs) h i j d less below =
    let under : j < length (x ∷ xs) = omega (arith, length-map (x ∷ xs) f) in
    let there : i < length (x ∷ xs) = omega arith in
    rw (get_or-map f (x ∷ xs) i x d there, get_or-map f (x ∷ xs) j x d under) (h i j x less under)

-- each two elements of a map
pub AllPairs-of_map : {X Y : Type 0} (R : Y → Y → Type 0) (f : X → Y) (xs : List X) → AllPairs R (map f xs) ↔ AllPairs (λ x y. R (f x) (f y)) xs
AllPairs-of_map R f xs = (pairs_of_map R f xs, pairs_in_map R f xs)

-- where each two elements are related by their keys, those before an element are related to its key
pub new_from_pairs : {X K : Type 0} (key : X → K) (R : K → K → Type 0) (xs : List X) (i : ℕ) (x : X) (k : K) → i < length xs → x ≡ get_or xs i x → k ≡ key (get_or xs i x) → AllPairs (λ a b. R (key a) (key b)) xs → AllWithin (λ a. R (key a) k) xs 0 i
new_from_pairs key R xs i x k inside is keyed pairs j d low below =
    let here : get_or xs i x ≡ get_or xs i d = sym is ∙ at_read xs (λ y. x ≡ y) i x inside is refl d in
    subst (λ m. R (key (get_or xs j d)) m) (sym (keyed ∙ ap key here)) (pairs j i d below inside)
