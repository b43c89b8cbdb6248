-- Laws of types, for crates above.
use Rattle.std.proofs.Common.{◌≡◌, ◌↔◌, ◌∙◌, ℕ, zero, suc, ◌+◌, ◌*◌, List, length, nat_eq, ◌&&◌, Bool, true, false, IsTrue, refl, ap, subst, arith}
use Rattle.std.specs.List.{repeat}
use Rattle.std.specs.Str.{bytes_eq}
use Rattle.std.proofs.lemmas.Bool.{eqb-true, eq-eqb}
use Rattle.std.proofs.lemmas.List.{length-append}
use Rattle.std.proofs.lemmas.Slice.Eq.{bytes_eq-Decides}
use Rattle.csub_types.specs.declared.kind.IntKind.TheVariants.{Char, Int, Unsigned}
use Rattle.csub_objects.specs.Types.{TypeTree, number_type, array_type, struct_type, loose_type, MemberTrees, no_member, more_members}
use Rattle.csub_objects.specs.Types.{cells, member_cells, kinds, member_kinds, type_eq, members_eq}

pub length-repeat : {X : Type 0} (n : ℕ) (xs : List X) → length (repeat n xs) ≡ n * length xs
length-repeat zero xs = let none : 0 ≡ 0 * length xs = omega arith in none
length-repeat (suc n) xs =
    let rest : length (repeat n xs) ≡ n * length xs = length-repeat n xs in
    let more : length xs + n * length xs ≡ suc n * length xs = omega arith in
    length-append xs (repeat n xs) ∙ ap (λ m. length xs + m) rest ∙ more

-- a type has as many kinds as cells
mutual
  pub length-kinds : (t : TypeTree) → length (kinds t) ≡ cells t
  length-kinds (number_type k) = refl
  length-kinds (array_type t n) = length-repeat n (kinds t) ∙ ap (λ m. n * m) (length-kinds t)
  length-kinds (struct_type tag ms) = length-member_kinds ms
  length-kinds (loose_type t) = refl

  pub length-member_kinds : (ms : MemberTrees) → length (member_kinds ms) ≡ member_cells ms
  length-member_kinds no_member = refl
  length-member_kinds (more_members x t rest) =
      length-append (kinds t) (member_kinds rest) ∙ ap (λ m. m + length (member_kinds rest)) (length-kinds t)
      ∙ ap (λ m. cells t + m) (length-member_kinds rest)

both : (a b : Bool) → (a && b) ≡ true → (a ≡ true) × (b ≡ true)
both true true h = (refl, refl)
both true false h = absurd (cc)
both false b h = absurd (cc)

join : (a b : Bool) → a ≡ true → b ≡ true → (a && b) ≡ true
join a b h k = ap (λ x. x && b) h ∙ k

-- `type_eq` says yes only of equal types
mutual
  equal : (a b : TypeTree) → type_eq a b ≡ true → a ≡ b
  equal (number_type Char) (number_type Char) h = refl
  equal (number_type Int) (number_type Int) h = refl
  equal (number_type Unsigned) (number_type Unsigned) h = refl
  equal (array_type t n) (array_type u m) h =
      let b = both (nat_eq n m) (type_eq t u) h in
      ap (λ x. array_type t x) (eqb-true n m b.0) ∙ ap (λ x. array_type x m) (equal t u b.1)
  equal (struct_type tag ms) (struct_type name ns) h =
      let b = both (bytes_eq tag name) (members_eq ms ns) h in
      ap (λ x. struct_type x ms) ((bytes_eq-Decides tag name).0 b.0) ∙ ap (λ x. struct_type name x) (equal_members ms ns b.1)
  equal (loose_type t) (loose_type u) h = ap (λ x. loose_type x) (equal t u h)
  equal a b h = absurd (cc)

  equal_members : (ms ns : MemberTrees) → members_eq ms ns ≡ true → ms ≡ ns
  equal_members no_member no_member h = refl
  equal_members (more_members x t ms) (more_members y u ns) h =
      let b = both (bytes_eq x y) (type_eq t u && members_eq ms ns) h in
      let c = both (type_eq t u) (members_eq ms ns) b.1 in
      ap (λ z. more_members z t ms) ((bytes_eq-Decides x y).0 b.0) ∙ ap (λ z. more_members y z ms) (equal t u c.0)
      ∙ ap (λ z. more_members y u z) (equal_members ms ns c.1)
  equal_members ms ns h = absurd (cc)

-- and of each type and itself
mutual
  itself : (t : TypeTree) → type_eq t t ≡ true
  itself (number_type Char) = refl
  itself (number_type Int) = refl
  itself (number_type Unsigned) = refl
  itself (array_type t n) = join (nat_eq n n) (type_eq t t) (eq-eqb n n refl) (itself t)
  itself (struct_type tag ms) = join (bytes_eq tag tag) (members_eq ms ms) ((bytes_eq-Decides tag tag).1 refl) (itself_members ms)
  itself (loose_type t) = itself t

  itself_members : (ms : MemberTrees) → members_eq ms ms ≡ true
  itself_members no_member = refl
  itself_members (more_members x t ms) =
      join (bytes_eq x x) (type_eq t t && members_eq ms ms) ((bytes_eq-Decides x x).1 refl)
      (join (type_eq t t) (members_eq ms ms) (itself t) (itself_members ms))

-- `type_eq` is true exactly where two types are equal
pub type_eq-Decides : (a b : TypeTree) → IsTrue (type_eq a b) ↔ (a ≡ b)
type_eq-Decides a b = (equal a b, λ e. subst (λ x. type_eq a x ≡ true) e (itself a))
