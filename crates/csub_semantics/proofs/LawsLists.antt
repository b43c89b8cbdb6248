-- Lists, by what their elements stand for.
use Rattle.std.proofs.Common.{◌≡◌, ℕ, ◌<◌, List, map, length, get_or}
use Rattle.std.proofs.lemmas.List.{get_or-map}

-- equal maps have elements that stand for the same
pub map_at : {X Y : Type 0} (f : X → Y) (xs ys : List X) (i : ℕ) (x y : X) → i < length xs → i < length ys → map f xs ≡ map f ys → x ≡ get_or xs i x → y ≡ get_or ys i y → f x ≡ f y
map_at f xs ys i x y h k e p q =
    let a = get_or-map f xs i x (f x) h in let b = get_or-map f ys i y (f x) k in cc
