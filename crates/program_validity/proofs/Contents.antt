-- The numbers that an object of file scope begins with are those of its kinds.
use Rattle.std.proofs.Common.{◌≡◌, ◌+◌, ℕ, zero, suc, ℤ, pos, arith, List, [], ◌∷◌, ◌++◌, map, Bool, true, false, Option, Some, None, IsTrue, refl, ap, subst}
use Rattle.std.specs.Prelude.{◌<◌, nat_lt, if◌then◌else◌}
use Rattle.std.specs.List.{repeat}
use Rattle.std.proofs.lemmas.Int.{ints}
use Rattle.std.proofs.lemmas.Bool.Decides.{nat_tests}
use Rattle.csub_types.specs.declared.kind.IntKind.{IntKind}
use Rattle.csub_types.specs.declared.kind.IntKind.TheVariants.{Char, Int, Unsigned}
use Rattle.csub_types.specs.Kinds.{IsOf}
use Rattle.csub_tree.specs.Declarations.{Init, Inits, One, Listed, NoInits, MoreInits}
use Rattle.csub_objects.specs.Types.{Name, TypeTree, number_type, array_type, struct_type, loose_type, MemberTrees, no_member, more_members, kinds, member_kinds}
use Rattle.csub_objects.specs.Parts.{part_type, member_at}
use Rattle.csub_validity.specs.Valid.{AreOf}
use Rattle.csub_scopes.specs.Scopes.{Scope}
use Rattle.csub_rules.specs.BrokenInit.{FineInit, FineEntries}
use Rattle.csub_rules.specs.FineItems.{FineInitial}
use Rattle.csub_rules.specs.Heads.{sure_type}
use Rattle.program_validity.proofs.Converted.{converted}
use Rattle.csub_resolution.specs.Contents.{zeros, constant_or_zero, contents, element_contents, member_contents, initial}

are_append : (ks js : List IntKind) (vs ws : List ℤ) → AreOf ks vs → AreOf js ws → AreOf (ks ++ js) (vs ++ ws)
are_append [] js [] ws p q = q
are_append [] js (v ∷ vs) ws p q = absurd p
are_append (k ∷ ks) js [] ws p q = absurd p
are_append (k ∷ ks) js (v ∷ vs) ws p q = (p.0, are_append ks js vs ws p.1 q)

are_repeated : (n : ℕ) (ks : List IntKind) (vs : List ℤ) → AreOf ks vs → AreOf (repeat n ks) (repeat n vs)
are_repeated zero ks vs p = tt
are_repeated (suc n) ks vs p = are_append ks (repeat n ks) vs (repeat n vs) p (are_repeated n ks vs p)

zero_is_of : (k : IntKind) → IsOf k (pos 0)
zero_is_of Char = (omega (arith, ints), omega (arith, ints))
zero_is_of Int = (omega (arith, ints), omega (arith, ints))
zero_is_of Unsigned = (omega (arith, ints), omega (arith, ints))

are_zeros : (ks : List IntKind) → AreOf ks (map (λ k. pos 0) ks)
are_zeros [] = tt
are_zeros (k ∷ ks) = (zero_is_of k, are_zeros ks)

module _ (scope : Scope) where
  zero_members : (ms : MemberTrees) → AreOf (member_kinds ms) (member_contents scope NoInits ms)
  zero_members no_member = tt
  zero_members (more_members a t ms) =
      are_append (kinds t) (member_kinds ms) (zeros t) (member_contents scope NoInits ms) (are_zeros (kinds t)) (zero_members ms)

  -- from number i on the parts are these members
  abbrev PartsAre : TypeTree → ℕ → MemberTrees → Type 0
  PartsAre whole i ms = (j : ℕ) → part_type whole (i + j) ≡ member_at ms j

  all_parts : (tag : Name) (ms : MemberTrees) → PartsAre (struct_type tag ms) 0 ms
  all_parts tag ms j = let e : 0 + j ≡ j = omega arith in ap (λ k. member_at ms k) e

  first_part : (whole : TypeTree) (i : ℕ) (a : Name) (t : TypeTree) (ms : MemberTrees) → PartsAre whole i (more_members a t ms) → part_type whole i ≡ Some t
  first_part whole i a t ms e =
      let z : i + 0 ≡ i = omega arith in
      let here : part_type whole (i + 0) ≡ Some t = e 0 in
      subst (λ k. part_type whole k ≡ Some t) z here

  later_parts : (whole : TypeTree) (i : ℕ) (a : Name) (t : TypeTree) (ms : MemberTrees) → PartsAre whole i (more_members a t ms) → PartsAre whole (i + 1) ms
  later_parts whole i a t ms e j =
      let z : i + suc j ≡ i + 1 + j = omega arith in
      let there : part_type whole (i + suc j) ≡ member_at ms j = e (suc j) in
      subst (λ k. part_type whole k ≡ member_at ms j) z there

  fine_part : (o : Option TypeTree) (t : TypeTree) (x : Init) → o ≡ Some t → FineInit scope true o x → FineInit scope true (Some t) x
  fine_part o t x e f = subst (λ p. FineInit scope true p x) e f

  element : (t : TypeTree) (i whole : ℕ) → i < whole → part_type (array_type t whole) i ≡ Some t
  element t i whole h = by (nat_lt i whole) (is_less i whole h)
    where
      is_less : (a b : ℕ) → a < b → IsTrue (nat_lt a b)
      is_less a b h = grind (arith, nat_tests)

      by : (b : Bool) → IsTrue b → (if b then Some t else None) ≡ Some t
      by true h = refl
      by false h = absurd (cc)

  mutual
    pub are_contents : (x : Init) (t : TypeTree) → FineInit scope true (Some t) x → AreOf (kinds t) (contents scope x t)
    are_contents (One e) (number_type k) f = (converted k (constant_or_zero scope (One e)), tt)
    are_contents (One e) (array_type t n) f = let none : IsTrue false = f.3 in absurd (cc)
    are_contents (One e) (struct_type tag ms) f = let none : IsTrue false = f.3 in absurd (cc)
    are_contents (One e) (loose_type t) f = let none : IsTrue false = f.3 in absurd (cc)
    are_contents (Listed xs s) (number_type k) f = are_zeros (kinds (number_type k))
    are_contents (Listed xs s) (array_type t n) f = are_elements xs t n 0 n (omega arith) f
    are_contents (Listed xs s) (struct_type tag ms) f = are_members xs (struct_type tag ms) ms 0 (all_parts tag ms) f
    are_contents (Listed xs s) (loose_type t) f = are_zeros (kinds (loose_type t))

    are_elements : (xs : Inits) (t : TypeTree) (whole i n : ℕ) → i + n ≡ whole → FineEntries scope true (array_type t whole) i xs
        → AreOf (repeat n (kinds t)) (element_contents scope xs t n)
    are_elements NoInits t whole i n e f = are_repeated n (kinds t) (zeros t) (are_zeros (kinds t))
    are_elements (MoreInits x rest) t whole i zero e f = tt
    are_elements (MoreInits x rest) t whole i (suc n) e f =
        are_append (kinds t) (repeat n (kinds t)) (contents scope x t) (element_contents scope rest t n)
        (are_contents x t (fine_part (part_type (array_type t whole) i) t x (element t i whole (omega arith)) f.1))
        (are_elements rest t whole (i + 1) n (omega arith) f.2)

    are_members : (xs : Inits) (whole : TypeTree) (ms : MemberTrees) (i : ℕ) → PartsAre whole i ms → FineEntries scope true whole i xs
        → AreOf (member_kinds ms) (member_contents scope xs ms)
    are_members NoInits whole ms i e f = zero_members ms
    are_members (MoreInits x rest) whole no_member i e f = tt
    are_members (MoreInits x rest) whole (more_members a t ms) i e f =
        are_append (kinds t) (member_kinds ms) (contents scope x t) (member_contents scope rest ms)
        (are_contents x t (fine_part (part_type whole i) t x (first_part whole i a t ms e) f.1))
        (are_members rest whole ms (i + 1) (later_parts whole i a t ms e) f.2)

pub are_initial : (scope : Scope) (i : Option Init) (o : Option TypeTree) → FineInitial scope o i
    → AreOf (kinds (sure_type o)) (initial scope i (sure_type o))
are_initial scope None o f = are_zeros (kinds (sure_type o))
are_initial scope (Some (One e)) None f = absurd f
are_initial scope (Some (Listed xs s)) None f = absurd f
are_initial scope (Some x) (Some t) f = are_contents scope x t f
