-- Two lists, element by element.
use Rattle.std.proofs.Common.{◌≡◌, ℕ, ◌+◌, ◌<◌, List, [], ◌∷◌, ◌++◌, length, get_or, take, sym, ap, ◌∙◌, subst}
use Rattle.std.specs.List.{AllZip}
use Rattle.std.proofs.lemmas.List.{take_more}

pub all_zip-push : {A B : Type 0} (R : A → B → Type 0) (xs : List A) (ys : List B) (x : A) (y : B) → AllZip R xs ys → R x y → AllZip R (xs ++ x ∷ []) (ys ++ y ∷ [])
all_zip-push R [] [] x y h r = (r, tt)
all_zip-push R [] (b ∷ ys) x y h r = absurd h
all_zip-push R (a ∷ xs) [] x y h r = absurd h
all_zip-push R (a ∷ xs) (b ∷ ys) x y h r = (h.0, all_zip-push R xs ys x y h.1 r)

-- one turn of a loop over the first list that builds the second
pub all_zip-next : {A B : Type 0} (R : A → B → Type 0) (xs : List A) (ys : List B) (i : ℕ) (x : A) (y : B) → i < length xs → x ≡ get_or xs i x → AllZip R (take i xs) ys → R x y → AllZip R (take (i + 1) xs) (ys ++ y ∷ [])
all_zip-next R xs ys i x y within is h r =
    let whole : take (i + 1) xs ≡ take i xs ++ x ∷ [] = take_more xs i x within ∙ ap (λ e. take i xs ++ e ∷ []) (sym is) in
    subst (λ s. AllZip R s (ys ++ y ∷ [])) (sym whole) (all_zip-push R (take i xs) ys x y h r)
