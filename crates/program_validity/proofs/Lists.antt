-- Lists: what holds of each element, and of each two.
use Rattle.std.proofs.Common.{◌≡◌, arith, Bool, true, false, List, [], ◌∷◌, ◌++◌, map, All, IsTrue, not, bytes_eq, refl}
use Rattle.std.specs.Prelude.{AllPairs, ◌||◌}
use Rattle.std.specs.List.{flat_map}
use Rattle.std.proofs.lemmas.List.Elements.{All-nil, All-cons, All-head, All-tail, All-append}
use Rattle.std.proofs.lemmas.List.Kept.{AllPairs-cons}
use Rattle.std.proofs.lemmas.Slice.Eq.{bytes_eq-Decides}
use Rattle.csub_objects.specs.Types.{Name}

-- of each element and each later one
abbrev pub Pairs : {X : Type 0} → (X → X → Type 0) → List X → Type 0
Pairs R [] = Unit {0}
Pairs R (x ∷ xs) = All (R x) xs × Pairs R xs

pub all_pairs : {X : Type 0} (R : X → X → Type 0) (xs : List X) → Pairs R xs → AllPairs R xs
all_pairs R [] p = λ i j d a b. absurd (omega arith)
all_pairs R (x ∷ xs) p = AllPairs-cons R x xs p.0 (all_pairs R xs p.1)

pub pairs_append : {X : Type 0} (R : X → X → Type 0) (xs ys : List X) → Pairs R xs → Pairs R ys → All (λ x. All (R x) ys) xs → Pairs R (xs ++ ys)
pairs_append R [] ys p q c = q
pairs_append R (x ∷ xs) ys p q c =
    (All-append (R x) xs ys p.0 (All-head (λ z. All (R z) ys) x xs c), pairs_append R xs ys p.1 q (All-tail (λ z. All (R z) ys) x xs c))

pub all_flat : {X Y : Type 0} (P : Y → Type 0) (f : X → List Y) (xs : List X) → All (λ x. All P (f x)) xs → All P (flat_map f xs)
all_flat P f [] h = All-nil P
all_flat P f (x ∷ xs) h =
    All-append P (f x) (flat_map f xs) (All-head (λ z. All P (f z)) x xs h) (all_flat P f xs (All-tail (λ z. All P (f z)) x xs h))

pub from_map : {X Y : Type 0} (P : Y → Type 0) (f : X → Y) (xs : List X) → All P (map f xs) → All (λ x. P (f x)) xs
from_map P f [] h = All-nil (λ x. P (f x))
from_map P f (x ∷ xs) h =
    All-cons (λ z. P (f z)) x xs (All-head P (f x) (map f xs) h) (from_map P f xs (All-tail P (f x) (map f xs) h))

-- names
pub same_name : (a b : Name) → IsTrue (bytes_eq a b) → a ≡ b
same_name a b h = (bytes_eq-Decides a b).0 h

pub is_same : (a : Name) → IsTrue (bytes_eq a a)
is_same a = (bytes_eq-Decides a a).1 refl

pub contrary : (b : Bool) → IsTrue (not b) → IsTrue b → ⊥
contrary true h k = cc
contrary false h k = cc

pub in_first : (a b : Bool) → IsTrue a → IsTrue (a || b)
in_first true b h = refl
in_first false b h = absurd (cc)

pub in_second : (a b : Bool) → IsTrue b → IsTrue (a || b)
in_second true b h = refl
in_second false b h = h

pub first_fails : (a b : Bool) → IsTrue (not (a || b)) → IsTrue (not a)
first_fails true b h = h
first_fails false b h = refl

pub second_fails : (a b : Bool) → IsTrue (not (a || b)) → IsTrue (not b)
second_fails true b h = absurd (cc)
second_fails false b h = h
