-- Initial contents of objects, part by part.
use Rattle.std.proofs.Common.{◌≡◌, ◌↔◌, ◌∙◌, ◌==◌, Bool, true, IsTrue, ℕ, suc, ◌+◌, ◌-◌, ◌<◌, ℤ, List, [], ◌∷◌, ◌++◌, map, length, drop, get_or, refl, ap, subst, sym, arith}
use Rattle.std.specs.List.{repeat}
use Rattle.std.proofs.lemmas.Bool.Decides.{nat_tests}
use Rattle.std.proofs.lemmas.List.{drop_more}
use Rattle.csub_objects.specs.declared.types.Member.{Member}
use Rattle.csub_objects.specs.Meaning.{type_tree, member_tree}
use Rattle.csub_objects.specs.Types.{kinds, member_kinds, members_of}
use Rattle.csub_types.specs.declared.kind.IntKind.{IntKind}
use Rattle.csub_validity.specs.Valid.{AreOf}
use Rattle.csub_decisions.specs.Checks.{BeginWith}

-- nothing is left exactly where there is a number for each kind
pub BeginWith-all : (ks : List IntKind) (vs : List ℤ) → BeginWith ks vs [] ↔ AreOf ks vs
BeginWith-all [] [] = (λ h. tt, λ h. refl)
BeginWith-all [] (v ∷ vs) = (λ h. absurd (cc), λ h. absurd h)
BeginWith-all (k ∷ ks) [] = (λ h. absurd h, λ h. absurd h)
BeginWith-all (k ∷ ks) (v ∷ vs) = let rest = BeginWith-all ks vs in (λ h. (h.0, rest.0 h.1), λ h. (h.0, rest.1 h.1))

-- the others are the same whenever numbers begin so
pub BeginWith-once : (ks : List IntKind) (vs r s : List ℤ) → BeginWith ks vs r → BeginWith ks vs s → r ≡ s
BeginWith-once [] vs r s h g = cc
BeginWith-once (k ∷ ks) [] r s h g = absurd h
BeginWith-once (k ∷ ks) (v ∷ vs) r s h g = BeginWith-once ks vs r s h.1 g.1

-- kinds behind others
join : (ks ls : List IntKind) (vs r s : List ℤ) → BeginWith ks vs r → BeginWith ls r s → BeginWith (ks ++ ls) vs s
join [] ls vs r s h g = subst (λ ws. BeginWith ls ws s) (sym h) g
join (k ∷ ks) ls [] r s h g = absurd h
join (k ∷ ks) ls (v ∷ vs) r s h g = (h.0, join ks ls vs r s h.1 g)

first_part : (ks ls : List IntKind) (vs s : List ℤ) → BeginWith (ks ++ ls) vs s → (r : List ℤ) × BeginWith ks vs r × BeginWith ls r s
first_part [] ls vs s h = (vs, refl, h)
first_part (k ∷ ks) ls [] s h = absurd h
first_part (k ∷ ks) ls (v ∷ vs) s h = let rest = first_part ks ls vs s h.1 in (rest.0, (h.0, rest.1), rest.2)

pub BeginWith-append : (ks ls : List IntKind) (vs r s : List ℤ) → BeginWith ks vs r → BeginWith (ks ++ ls) vs s ↔ BeginWith ls r s
BeginWith-append ks ls vs r s h = (
  λ g. let part = first_part ks ls vs s g in subst (λ ws. BeginWith ls ws s) (BeginWith-once ks vs part.0 r part.1 h) part.2,
  join ks ls vs r s h,
)

pub BeginWith-none : (ks ls : List IntKind) (vs s : List ℤ) → ((r : List ℤ) → BeginWith ks vs r → ⊥) → BeginWith (ks ++ ls) vs s → ⊥
BeginWith-none ks ls vs s h g = let part = first_part ks ls vs s g in h part.0 part.1

-- what numbers begin with, and how it goes on behind other numbers
abbrev pub GoesOn : List IntKind → List ℤ → List IntKind → List ℤ → Type 0
GoesOn ks vs ls rest = (s : List ℤ) → BeginWith ls rest s ↔ BeginWith ks vs s

-- one element
pub next_element : (n i : ℕ) (ks all : List IntKind) (vs rest r : List ℤ) → i < n → BeginWith ks rest r
    → GoesOn all vs (repeat (n - i) ks) rest → GoesOn all vs (repeat (n - (i + 1)) ks) r
next_element n i ks all vs rest r below h go s =
    let more : n - i ≡ suc (n - (i + 1)) = omega arith in
    let step = BeginWith-append ks (repeat (n - (i + 1)) ks) rest r s h in
    let before = subst (λ m. BeginWith (repeat m ks) rest s ↔ BeginWith all vs s) more (go s) in
    (λ g. before.0 (step.1 g), λ g. step.0 (before.1 g))

pub no_element : (n i : ℕ) (ks all : List IntKind) (vs rest : List ℤ) → i < n → ((r : List ℤ) → BeginWith ks rest r → ⊥)
    → GoesOn all vs (repeat (n - i) ks) rest → (s : List ℤ) → BeginWith all vs s → ⊥
no_element n i ks all vs rest below h go s g =
    let more : n - i ≡ suc (n - (i + 1)) = omega arith in
    BeginWith-none ks (repeat (n - (i + 1)) ks) rest s h (subst (λ m. BeginWith (repeat m ks) rest s) more ((go s).1 g))

-- one part, with others behind it
pub next_part : (ks after all : List IntKind) (vs rest r : List ℤ) → BeginWith ks rest r → GoesOn all vs (ks ++ after) rest → GoesOn all vs after r
next_part ks after all vs rest r h go s =
    let step = BeginWith-append ks after rest r s h in
    (λ g. (go s).0 (step.1 g), λ g. step.0 ((go s).1 g))

pub no_part : (ks after all : List IntKind) (vs rest : List ℤ) → ((r : List ℤ) → BeginWith ks rest r → ⊥) → GoesOn all vs (ks ++ after) rest
    → (s : List ℤ) → BeginWith all vs s → ⊥
no_part ks after all vs rest h go s g = BeginWith-none ks after rest s h ((go s).1 g)

-- the members from one on are it, and those behind it
members_from : (ms : List Member) (i : ℕ) (m : Member) → i < length ms → m ≡ get_or ms i m
    → member_kinds (members_of (map member_tree (drop i ms))) ≡ kinds (type_tree m.ctype) ++ member_kinds (members_of (map member_tree (drop (i + 1) ms)))
members_from ms i m below is =
    ap (λ (xs : List Member). member_kinds (members_of (map member_tree xs))) (drop_more ms i m below)
    ∙ ap (λ (x : Member). kinds (type_tree x.ctype) ++ member_kinds (members_of (map member_tree (drop (i + 1) ms)))) (sym is)

pub next_member : (ms : List Member) (i : ℕ) (m : Member) (all : List IntKind) (vs rest r : List ℤ) → i < length ms → m ≡ get_or ms i m
    → BeginWith (kinds (type_tree m.ctype)) rest r → GoesOn all vs (member_kinds (members_of (map member_tree (drop i ms)))) rest
    → GoesOn all vs (member_kinds (members_of (map member_tree (drop (i + 1) ms)))) r
next_member ms i m all vs rest r below is h go =
    next_part (kinds (type_tree m.ctype)) (member_kinds (members_of (map member_tree (drop (i + 1) ms)))) all vs rest r h
    (subst (λ ks. GoesOn all vs ks rest) (members_from ms i m below is) go)

pub no_member_there : (ms : List Member) (i : ℕ) (m : Member) (all : List IntKind) (vs rest : List ℤ) → i < length ms → m ≡ get_or ms i m
    → ((r : List ℤ) → BeginWith (kinds (type_tree m.ctype)) rest r → ⊥) → GoesOn all vs (member_kinds (members_of (map member_tree (drop i ms)))) rest
    → (s : List ℤ) → BeginWith all vs s → ⊥
no_member_there ms i m all vs rest below is h go =
    no_part (kinds (type_tree m.ctype)) (member_kinds (members_of (map member_tree (drop (i + 1) ms)))) all vs rest h
    (subst (λ ks. GoesOn all vs ks rest) (members_from ms i m below is) go)

not_empty : (n : ℕ) → (suc n == 0) ≡ true → ⊥
not_empty n e = grind (arith, nat_tests)

-- numbers with others behind them
pub none_left : (ks : List IntKind) (vs r : List ℤ) (b : Bool) → b ≡ (length r == 0) → BeginWith ks vs r → IsTrue b ↔ AreOf ks vs
none_left ks vs [] b e h =
    let all = BeginWith-all ks vs in
    (λ g. all.0 h, λ g. e)
none_left ks vs (v ∷ r) b e h = (
  λ g. absurd (not_empty (length r) (sym e ∙ g)),
  λ g. absurd (let same = BeginWith-once ks vs (v ∷ r) [] h ((BeginWith-all ks vs).1 g) in cc),
)
