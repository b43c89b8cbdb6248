-- The parts of an object in their order, and where they lie in it.
use Rattle.std.specs.Prelude.{ℕ, zero, suc, ◌+◌, ◌*◌, ◌<◌, ◌≤◌, ◌≡◌, nat_lt, Bool, true, false, take, drop}
use Rattle.std.specs.Prelude.{Option, Some, None, if◌then◌else◌}
use Rattle.csub_objects.specs.Types.{Name, TypeTree, number_type, array_type, struct_type, loose_type, MemberTrees, no_member, more_members}
use Rattle.csub_objects.specs.Types.{member_type, first_cell, cells, kinds, IsSized}

-- the type of the member with a number among those of its struct, from 0
abbrev pub member_at : MemberTrees → ℕ → Option TypeTree
member_at no_member i = None
member_at (more_members x t rest) zero = Some t
member_at (more_members x t rest) (suc i) = member_at rest i

-- the type of part number i of an object: an element of an array, or a member of a struct (C11 6.7.9p17)
abbrev pub part_type : TypeTree → ℕ → Option TypeTree
part_type (number_type k) i = None
part_type (array_type t n) i = if nat_lt i n then Some t else None
part_type (struct_type tag ms) i = member_at ms i
part_type (loose_type t) i = None

-- whether an object of a type has parts
abbrev pub has_parts : TypeTree → Bool
has_parts (number_type k) = false
has_parts (array_type t n) = true
has_parts (struct_type tag ms) = true
has_parts (loose_type t) = false

-- from cell n on, the cells of an object of type t are those of an object of type u
pub record LiesAt (u : TypeTree) (n : ℕ) (t : TypeTree) : Type 0 where
  pub within : n + cells u ≤ cells t
  pub same : take (cells u) (drop n (kinds t)) ≡ kinds u

-- a member lies at its first cell (C11 6.7.2.1p15)
abbrev pub MembersLieAtFirstCells : Type 0
MembersLieAtFirstCells =
    (name : Name) (t u : TypeTree) (n : ℕ) → member_type name t ≡ Some u → first_cell name t ≡ Some n → LiesAt u n t

-- the elements of an array lie one behind the other (C11 6.2.5p20)
abbrev pub ElementsLieInOrder : Type 0
ElementsLieInOrder = (t : TypeTree) (i n : ℕ) → i < n → LiesAt t (i * cells t) (array_type t n)

-- the parts of a type that an object may have are such types
abbrev pub PartsAreSized : Type 0
PartsAreSized =
    ((t : TypeTree) (n : ℕ) → IsSized (array_type t n) → IsSized t)
    × ((name : Name) (t u : TypeTree) → member_type name t ≡ Some u → IsSized t → IsSized u)
