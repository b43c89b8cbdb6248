-- Paths into an object, and which part of it is at the end of one.
use Rattle.std.specs.Prelude.{ℕ, ◌+◌, ◌*◌, nat_lt, List, [], ◌∷◌, Option, Some, None, bytes_eq, if◌then◌else◌}
use Rattle.std.specs.Option.{option_and_then}
use Rattle.csub_objects.specs.Types.{Name, TypeTree, number_type, array_type, struct_type, loose_type, MemberTrees, no_member, more_members, cells}

-- a step into an object: to an element or to a member
pub data Inner : Type 0 where
  element_at : ℕ → Inner
  member_of : Name → Inner

-- a part of an object: how many cells are before it, and its type
pub record Inside : Type 0 where
  pub at : ℕ
  pub ctype : TypeTree

abbrev pub inside_at : ℕ → TypeTree → Inside
inside_at n t = record { at = n; ctype = t }

-- the same behind so many cells
abbrev pub moved : ℕ → Option Inside → Option Inside
moved k None = None
moved k (Some x) = Some (inside_at (k + x.at) x.ctype)

-- the part at the end of a path: elements lie one after the other (C11 6.2.5p20), and so do members (6.7.2.1p15)
abbrev mutual
  pub inside : TypeTree → List Inner → Option Inside
  inside t [] = Some (inside_at 0 t)
  inside (number_type k) (i ∷ path) = None
  inside (array_type t n) (element_at i ∷ path) = if nat_lt i n then moved (i * cells t) (inside t path) else None
  inside (array_type t n) (member_of a ∷ path) = None
  inside (struct_type tag ms) (element_at i ∷ path) = None
  inside (struct_type tag ms) (member_of a ∷ path) = inside_member ms a path
  inside (loose_type t) (i ∷ path) = None

  pub inside_member : MemberTrees → Name → List Inner → Option Inside
  inside_member no_member a path = None
  inside_member (more_members x t rest) a path = if bytes_eq x a then inside t path else moved (cells t) (inside_member rest a path)

-- the cell of a part that is a number
abbrev pub number_cell : TypeTree → ℕ → Option ℕ
number_cell (number_type k) n = Some n
number_cell (array_type t m) n = None
number_cell (struct_type tag ms) n = None
number_cell (loose_type t) n = None

-- which of the cells of a type's object is at a path, counted from 0, where a number stands there
abbrev pub cell_number : TypeTree → List Inner → Option ℕ
cell_number t path = option_and_then (λ (x : Inside). number_cell x.ctype x.at) (inside t path)
