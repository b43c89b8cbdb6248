-- The limits of `IsSized` as a truth value. That both say the same is a law.
use Rattle.std.specs.Prelude.{◌↔◌, Bool, true, false, ◌&&◌, nat_le, nat_lt, IsTrue}
use Rattle.csub_objects.specs.Types.{TypeTree, number_type, array_type, struct_type, loose_type, MemberTrees, no_member, more_members}
use Rattle.csub_objects.specs.Types.{cells, levels, dimensions, IsSized}

abbrev mutual
  pub has_arrays : TypeTree → Bool
  has_arrays (number_type k) = true
  has_arrays (array_type t n) = nat_le 1 n && (nat_le n 65536 && (nat_lt (dimensions t) 3 && has_arrays t))
  has_arrays (struct_type tag ms) = have_arrays ms
  has_arrays (loose_type t) = false

  pub have_arrays : MemberTrees → Bool
  have_arrays no_member = true
  have_arrays (more_members x t rest) = has_arrays t && have_arrays rest

abbrev pub is_sized : TypeTree → Bool
is_sized t = has_arrays t && (nat_le (cells t) 65536 && nat_le (levels t) 32)

abbrev pub SizesAreDecided : Type 0
SizesAreDecided = (t : TypeTree) → IsTrue (is_sized t) ↔ IsSized t
