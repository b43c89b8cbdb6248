-- Laws of lists of members, for crates above.
use Rattle.std.proofs.Common.{◌≡◌, ◌∙◌, ℕ, zero, suc, ◌+◌, ◌<◌, ◌≤◌, List, [], ◌∷◌, length, map, get_or, refl, ap, arith}
use Rattle.csub_objects.specs.declared.types.Member.{Member}
use Rattle.csub_objects.specs.Codes.{type_size, members_size}
use Rattle.csub_objects.specs.Meaning.{type_tree, member_tree}
use Rattle.csub_objects.specs.Types.{MemberTree, members_of}

-- A member has fewer parts than the list: the measure of a recursion over types through `Members::items`.
pub member_falls : (ms : List Member) (i : ℕ) (d : Member) → i < length ms → type_size (type_tree (get_or ms i d).ctype) + 1 ≤ members_size (members_of (map member_tree ms))
member_falls [] i d h = absurd (omega arith)
member_falls (m ∷ ms) zero d h = omega arith
member_falls (m ∷ ms) (suc i) d h = let rest = member_falls ms i d (omega arith) in omega arith

-- the members are the same only where the lists are
member_same : (x y : MemberTree) → x.name ≡ y.name → x.ctype ≡ y.ctype → x ≡ y
member_same x y n t = ap (λ a. record { name = a; ctype = x.ctype }) n ∙ ap (λ b. record { name = y.name; ctype = b }) t

pub members_of-same : (xs ys : List MemberTree) → members_of xs ≡ members_of ys → xs ≡ ys
members_of-same [] [] h = refl
members_of-same [] (y ∷ ys) h = absurd (cc)
members_of-same (x ∷ xs) [] h = absurd (cc)
members_of-same (x ∷ xs) (y ∷ ys) h =
    let rest : xs ≡ ys = members_of-same xs ys (cc) in
    let head : x ≡ y = member_same x y (cc) (cc) in
    ap (λ m. m ∷ xs) head ∙ ap (λ ms. y ∷ ms) rest
