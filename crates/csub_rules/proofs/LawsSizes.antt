-- The limits of types as truth values are those of the definition.
use Rattle.std.proofs.Common.{◌≡◌, ◌↔◌, ℕ, ◌<◌, ◌≤◌, Bool, true, false, Option, Some, None, refl, subst, IsTrue, not, ◌&&◌, nat_le, nat_lt, arith}
use Rattle.std.proofs.lemmas.Bool.Decides.{nat_tests}
use Rattle.csub_objects.specs.Types.{TypeTree, number_type, array_type, struct_type, loose_type, MemberTrees, no_member, more_members}
use Rattle.csub_objects.specs.Types.{cells, levels, dimensions, HasArrays, HaveArrays, IsSized}
use Rattle.csub_rules.specs.Sizes.{has_arrays, have_arrays, is_sized}
use Rattle.csub_rules.specs.Declarators.{is_too_large}
use Rattle.csub_rules.proofs.LawsServed.{both, both_parts, no_not}

at_most : (a b : ℕ) → IsTrue (nat_le a b) → a ≤ b
at_most a b h = grind (arith, nat_tests)

is_at_most : (a b : ℕ) → a ≤ b → IsTrue (nat_le a b)
is_at_most a b h = grind (arith, nat_tests)

pub less : (a b : ℕ) → IsTrue (nat_lt a b) → a < b
less a b h = grind (arith, nat_tests)

pub is_less : (a b : ℕ) → a < b → IsTrue (nat_lt a b)
is_less a b h = grind (arith, nat_tests)

mutual
  arrays : (t : TypeTree) → IsTrue (has_arrays t) → HasArrays t
  arrays (number_type k) h = tt
  arrays (array_type t n) h =
      let p = both_parts (nat_le 1 n) (nat_le n 65536 && (nat_lt (dimensions t) 3 && has_arrays t)) h in
      let q = both_parts (nat_le n 65536) (nat_lt (dimensions t) 3 && has_arrays t) p.1 in
      let r = both_parts (nat_lt (dimensions t) 3) (has_arrays t) q.1 in
      (at_most 1 n p.0, at_most n 65536 q.0, less (dimensions t) 3 r.0, arrays t r.1)
  arrays (struct_type tag ms) h = member_arrays ms h
  arrays (loose_type t) h = absurd (cc)

  member_arrays : (ms : MemberTrees) → IsTrue (have_arrays ms) → HaveArrays ms
  member_arrays no_member h = tt
  member_arrays (more_members x t rest) h =
      let p = both_parts (has_arrays t) (have_arrays rest) h in (arrays t p.0, member_arrays rest p.1)

mutual
  is_arrays : (t : TypeTree) → HasArrays t → IsTrue (has_arrays t)
  is_arrays (number_type k) h = refl
  is_arrays (array_type t n) h =
      both (nat_le 1 n) (nat_le n 65536 && (nat_lt (dimensions t) 3 && has_arrays t)) (is_at_most 1 n h.0)
      (both (nat_le n 65536) (nat_lt (dimensions t) 3 && has_arrays t) (is_at_most n 65536 h.1)
      (both (nat_lt (dimensions t) 3) (has_arrays t) (is_less (dimensions t) 3 h.2) (is_arrays t h.3)))
  is_arrays (struct_type tag ms) h = are_arrays ms h
  is_arrays (loose_type t) h = absurd h

  are_arrays : (ms : MemberTrees) → HaveArrays ms → IsTrue (have_arrays ms)
  are_arrays no_member h = refl
  are_arrays (more_members x t rest) h = both (has_arrays t) (have_arrays rest) (is_arrays t h.0) (are_arrays rest h.1)

sized : (t : TypeTree) → IsTrue (is_sized t) → IsSized t
sized t h =
    let p = both_parts (has_arrays t) (nat_le (cells t) 65536 && nat_le (levels t) 32) h in
    let q = both_parts (nat_le (cells t) 65536) (nat_le (levels t) 32) p.1 in
    record { arrays = arrays t p.0; cells = at_most (cells t) 65536 q.0; levels = at_most (levels t) 32 q.1 }

unsized : (t : TypeTree) → IsSized t → IsTrue (is_sized t)
unsized t h =
    both (has_arrays t) (nat_le (cells t) 65536 && nat_le (levels t) 32) (is_arrays t h.arrays)
    (both (nat_le (cells t) 65536) (nat_le (levels t) 32) (is_at_most (cells t) 65536 h.cells) (is_at_most (levels t) 32 h.levels))

-- `is_sized` decides `IsSized`
pub is_sized-Decides : (t : TypeTree) → IsTrue (is_sized t) ↔ IsSized t
is_sized-Decides t = (sized t, unsized t)

-- ---- a declared type against the limits

-- there is a type, and it is too large
pub record Large (o : Option TypeTree) : Type 0 where
  pub ctype : TypeTree
  pub is : o ≡ Some ctype
  pub unsized : IsSized ctype → ⊥

pub contrary : (b : Bool) → IsTrue (not b) → IsTrue b → ⊥
contrary true h k = cc
contrary false h k = cc

refuted : (b : Bool) → (IsTrue b → ⊥) → IsTrue (not b)
refuted true h = absurd (h refl)
refuted false h = refl

-- the truth value tells one that is too large, and is told by one
pub large : (o : Option TypeTree) → IsTrue (is_too_large o) → Large o
large None h = absurd (cc)
large (Some t) h = record { ctype = t; is = refl; unsized = λ s. contrary (is_sized t) h ((is_sized-Decides t).1 s) }

pub is_large : (o : Option TypeTree) (t : TypeTree) → o ≡ Some t → (IsSized t → ⊥) → IsTrue (is_too_large o)
is_large None t e h = absurd (cc)
is_large (Some u) t e h =
    let same : u ≡ t = cc in refuted (is_sized u) (λ p. h (subst (λ x. IsSized x) same ((is_sized-Decides u).0 p)))

-- one that isn't too large is within the limits
pub small : (o : Option TypeTree) (t : TypeTree) → o ≡ Some t → is_too_large o ≡ false → IsSized t
small None t e h = absurd (cc)
small (Some u) t e h = let same : u ≡ t = cc in subst (λ x. IsSized x) same ((is_sized-Decides u).0 (no_not (is_sized u) h))
