-- Two lists, element by element.
use Rattle.std.proofs.Common.{◌≡◌, ℕ, ◌+◌, ◌<◌, List, [], ◌∷◌, ◌++◌, length, get_or, take, sym, ap, ◌∙◌, subst}
use Rattle.std.specs.List.{AllZip}
use Rattle.std.proofs.lemmas.List.{take_more}

pub all_zip_append : {A B : Type 0} (R : A → B → Type 0) (xs xs' : List A) (ys ys' : List B) → AllZip R xs ys → AllZip R xs' ys' → AllZip R (xs ++ xs') (ys ++ ys')
all_zip_append R [] xs' [] ys' first second = second
all_zip_append R [] xs' (y ∷ ys) ys' first second = absurd first
all_zip_append R (x ∷ xs) xs' [] ys' first second = absurd first
all_zip_append R (x ∷ xs) xs' (y ∷ ys) ys' first second = (first.0, all_zip_append R xs xs' ys ys' first.1 second)

-- one more element of each
pub all_zip_next : {A B : Type 0} (R : A → B → Type 0) (xs : List A) (ys : List B) (i : ℕ) (x : A) (y : B) → i < length xs → x ≡ get_or xs i x → AllZip R (take i xs) ys → R x y → AllZip R (take (i + 1) xs) (ys ++ y ∷ [])
all_zip_next R xs ys i x y below is held next =
    let whole : take (i + 1) xs ≡ take i xs ++ x ∷ [] = take_more xs i x below ∙ ap (λ e. take i xs ++ e ∷ []) (sym is) in
    subst (λ front. AllZip R front (ys ++ y ∷ [])) (sym whole) (all_zip_append R (take i xs) (x ∷ []) ys (y ∷ []) held (next, tt))
