-- Types of objects as values, and what C says of them: elements, members, cells, and the limits of this language.
use Rattle.std.specs.Prelude.{ℕ, ◌+◌, ◌*◌, ◌≤◌, ◌<◌, ◌≡◌, ◌≢◌, ◌++◌, ◌&&◌, max, nat_eq, List, [], ◌∷◌, AllPairs}
use Rattle.std.specs.List.{repeat}
use Rattle.std.specs.Prelude.{Bool, true, false, Option, Some, None, option_map, bytes_eq, codes, if◌then◌else◌}
use Rattle.csub_types.specs.declared.kind.IntKind.{IntKind}
use Rattle.csub_types.specs.declared.kind.IntKind.TheVariants.{Char, Int, Unsigned}

-- a name, as its bytes
abbrev pub Name : Type 0
Name = List ℕ

-- the function with which a program begins (C11 5.1.2.2.1p1)
abbrev pub main_name : Name
main_name = codes "main"

mutual
  -- a type (C11 6.2.5): an integer type, an array type of a length, a struct type, or the type of an array parameter (6.7.6.3p7)
  pub data TypeTree : Type 0 where
    number_type : IntKind → TypeTree
    array_type : TypeTree → ℕ → TypeTree
    struct_type : Name → MemberTrees → TypeTree
    loose_type : TypeTree → TypeTree

  -- the members of a struct in the order of their declarations (C11 6.7.2.1p6), each with its name and its type
  pub data MemberTrees : Type 0 where
    no_member : MemberTrees
    more_members : Name → TypeTree → MemberTrees → MemberTrees

-- a parameter or a member: its name and its declared type
pub record MemberTree : Type 0 where
  pub name : Name
  pub ctype : TypeTree

abbrev pub members_of : List MemberTree → MemberTrees
members_of [] = no_member
members_of (m ∷ rest) = more_members m.name m.ctype (members_of rest)

-- the members of a struct have different names (C11 6.7p3 and 6.2.3p1)
abbrev pub HaveDifferentNames : List MemberTree → Type 0
HaveDifferentNames ms = AllPairs (λ m n. m.name ≢ n.name) ms

-- the type of numbers
abbrev pub IsNumber : TypeTree → Type 0
IsNumber (number_type k) = Unit {0}
IsNumber (array_type t n) = ⊥
IsNumber (struct_type tag ms) = ⊥
IsNumber (loose_type t) = ⊥

-- the kind of a number place, `int` where it is none
abbrev pub number_kind : TypeTree → IntKind
number_kind (number_type k) = k
number_kind (array_type t n) = Int
number_kind (struct_type tag ms) = Int
number_kind (loose_type t) = Int

-- the type of the elements of an array or of an array parameter (C11 6.2.5p20)
abbrev pub element_type : TypeTree → Option TypeTree
element_type (number_type k) = None
element_type (array_type t n) = Some t
element_type (struct_type tag ms) = None
element_type (loose_type t) = Some t

-- how many elements an array has, 0 where the type says none
abbrev pub array_length : TypeTree → ℕ
array_length (number_type k) = 0
array_length (array_type t n) = n
array_length (struct_type tag ms) = 0
array_length (loose_type t) = 0

-- the type of the first member of a name (C11 6.5.2.3p3)
abbrev pub find_member : Name → MemberTrees → Option TypeTree
find_member name no_member = None
find_member name (more_members x t rest) = if bytes_eq x name then Some t else find_member name rest

abbrev pub member_type : Name → TypeTree → Option TypeTree
member_type name (number_type k) = None
member_type name (array_type t n) = None
member_type name (struct_type tag ms) = find_member name ms
member_type name (loose_type t) = None

-- How many cells an object of a type has: one for a number, length times the element's for an array (C11 6.2.5p20), the sum
-- over the members for a struct (6.7.2.1p6), and one for an array parameter, which holds what it refers to (6.7.6.3p7).
abbrev mutual
  pub cells : TypeTree → ℕ
  cells (number_type k) = 1
  cells (array_type t n) = n * cells t
  cells (struct_type tag ms) = member_cells ms
  cells (loose_type t) = 1

  pub member_cells : MemberTrees → ℕ
  member_cells no_member = 0
  member_cells (more_members x t rest) = cells t + member_cells rest

-- the first cell of the first member of a name: members lie one after the other (C11 6.7.2.1p15), so it is the cells before
abbrev pub find_cell : Name → MemberTrees → Option ℕ
find_cell name no_member = None
find_cell name (more_members x t rest) = if bytes_eq x name then Some 0 else option_map (λ n. cells t + n) (find_cell name rest)

abbrev pub first_cell : Name → TypeTree → Option ℕ
first_cell name (number_type k) = None
first_cell name (array_type t n) = None
first_cell name (struct_type tag ms) = find_cell name ms
first_cell name (loose_type t) = None

-- the kinds of a type's cells in order; that of an array parameter holds no number, and counts as `int`
abbrev mutual
  pub kinds : TypeTree → List IntKind
  kinds (number_type k) = k ∷ []
  kinds (array_type t n) = repeat n (kinds t)
  kinds (struct_type tag ms) = member_kinds ms
  kinds (loose_type t) = Int ∷ []

  pub member_kinds : MemberTrees → List IntKind
  member_kinds no_member = []
  member_kinds (more_members x t rest) = kinds t ++ member_kinds rest

abbrev pub kind_eq : IntKind → IntKind → Bool
kind_eq Char Char = true
kind_eq Int Int = true
kind_eq Unsigned Unsigned = true
kind_eq a b = false

-- whether two types are the same: equal tags and equal members, in order (C11 6.2.7p1)
abbrev mutual
  pub type_eq : TypeTree → TypeTree → Bool
  type_eq (number_type k) (number_type l) = kind_eq k l
  type_eq (array_type t n) (array_type u m) = nat_eq n m && type_eq t u
  type_eq (struct_type tag ms) (struct_type name ns) = bytes_eq tag name && members_eq ms ns
  type_eq (loose_type t) (loose_type u) = type_eq t u
  type_eq a b = false

  pub members_eq : MemberTrees → MemberTrees → Bool
  members_eq no_member no_member = true
  members_eq (more_members x t ms) (more_members y u ns) = bytes_eq x y && (type_eq t u && members_eq ms ns)
  members_eq ms ns = false

-- how many array types stand inside each other with nothing between them
abbrev pub dimensions : TypeTree → ℕ
dimensions (number_type k) = 0
dimensions (array_type t n) = dimensions t + 1
dimensions (struct_type tag ms) = 0
dimensions (loose_type t) = dimensions t + 1

-- how many structs stand inside each other
abbrev mutual
  pub levels : TypeTree → ℕ
  levels (number_type k) = 0
  levels (array_type t n) = levels t
  levels (struct_type tag ms) = member_levels ms + 1
  levels (loose_type t) = levels t

  pub member_levels : MemberTrees → ℕ
  member_levels no_member = 0
  member_levels (more_members x t rest) = max (levels t) (member_levels rest)

-- Each array in a type has at least one element (C11 6.7.6.2p1) and at most 65,536, and no more than 3 dimensions stand in
-- a row. No part is an array of unknown length, which is no complete type (6.2.5p22).
abbrev mutual
  pub HasArrays : TypeTree → Type 0
  HasArrays (number_type k) = Unit {0}
  HasArrays (array_type t n) = (1 ≤ n) × (n ≤ 65536) × (dimensions t < 3) × HasArrays t
  HasArrays (struct_type tag ms) = HaveArrays ms
  HasArrays (loose_type t) = ⊥

  pub HaveArrays : MemberTrees → Type 0
  HaveArrays no_member = Unit {0}
  HaveArrays (more_members x t rest) = HasArrays t × HaveArrays rest

-- a type that an object may have: its arrays are right, it has at most 65,536 cells, and at most 32 structs stand inside each other
pub record IsSized (t : TypeTree) : Type 0 where
  pub arrays : HasArrays t
  pub cells : cells t ≤ 65536
  pub levels : levels t ≤ 32

-- c is the number n, where it is at most 65,536, and 65,537 else
pub record IsCapped (c : ℕ) (n : ℕ) : Type 0 where
  pub exact : n ≤ 65536 → c ≡ n
  pub above : 65536 < n → c ≡ 65537
  pub small : c ≤ 65537

-- the same of a number that there may be
abbrev pub IsCappedSome : ℕ → Option ℕ → Type 0
IsCappedSome c None = ⊥
IsCappedSome c (Some n) = IsCapped c n
