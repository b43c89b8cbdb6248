-- What an expression may be, and what is asked of it.
use Rattle.std.specs.Prelude.{Bool, true, false, Option, Some, None, is_some, not, ◌&&◌, if◌then◌else◌}
use Rattle.csub_types.specs.declared.kind.IntKind.{IntKind}
use Rattle.csub_types.specs.declared.kind.IntKind.TheVariants.{Int}
use Rattle.csub_objects.specs.Types.{Name, TypeTree, number_type, array_type, struct_type, loose_type, element_type, member_type, type_eq}

-- a place of a type (an lvalue, C11 6.3.2.1p1), a value of a kind, a call without a value (6.3.2.2), or none of these: what
-- breaks a rule in itself, and a string
pub data Sort : Type 0 where
  a_place : TypeTree → Sort
  a_value : IntKind → Sort
  a_void : Sort
  no_sort : Sort

abbrev pub is_sorted : Sort → Bool
is_sorted (a_place t) = true
is_sorted (a_value k) = true
is_sorted a_void = true
is_sorted no_sort = false

-- An expression lacks what a rule asks of it. The rules say nothing of an expression without a sort, so that what is broken
-- inside is told alone.
abbrev pub lacks : Sort → Bool → Bool
lacks s has = is_sorted s && not has

-- the kind of a number's type
abbrev pub kind_of_type : TypeTree → Option IntKind
kind_of_type (number_type k) = Some k
kind_of_type (array_type t n) = None
kind_of_type (struct_type tag ms) = None
kind_of_type (loose_type t) = None

-- the kind of a number, which is a value or stands in a place
abbrev pub kind_of : Sort → Option IntKind
kind_of (a_place t) = kind_of_type t
kind_of (a_value k) = Some k
kind_of a_void = None
kind_of no_sort = None

-- the kind of a place of a number
abbrev pub place_kind_of : Sort → Option IntKind
place_kind_of (a_place t) = kind_of_type t
place_kind_of (a_value k) = None
place_kind_of a_void = None
place_kind_of no_sort = None

abbrev pub is_number : Sort → Bool
is_number s = is_some (kind_of s)

abbrev pub is_number_place : Sort → Bool
is_number_place s = is_some (place_kind_of s)

-- the kind of a number, `int` where there is none
abbrev pub kind_or_int : Option IntKind → IntKind
kind_or_int None = Int
kind_or_int (Some k) = k

abbrev pub the_kind : Sort → IntKind
the_kind s = kind_or_int (kind_of s)

-- a value of this kind, or this sort, where what it is made of serves
abbrev pub value_if : Bool → IntKind → Sort
value_if b k = if b then a_value k else no_sort

abbrev pub sort_if : Bool → Sort → Sort
sort_if b s = if b then s else no_sort

-- a place of a type, where there is a type
abbrev pub place_of : Option TypeTree → Sort
place_of None = no_sort
place_of (Some t) = a_place t

-- an element of a place of an array, or of an array parameter (C11 6.5.2.1p2)
abbrev pub element_of : Sort → Sort
element_of (a_place t) = place_of (element_type t)
element_of (a_value k) = no_sort
element_of a_void = no_sort
element_of no_sort = no_sort

abbrev pub is_array : Sort → Bool
is_array s = is_sorted (element_of s)

-- a member of a place of a struct (C11 6.5.2.3p3)
abbrev pub member_of : Name → Sort → Sort
member_of m (a_place t) = place_of (member_type m t)
member_of m (a_value k) = no_sort
member_of m a_void = no_sort
member_of m no_sort = no_sort

abbrev pub has_member : Name → Sort → Bool
has_member m s = is_sorted (member_of m s)

abbrev pub is_type : TypeTree → Option TypeTree → Bool
is_type t None = false
is_type t (Some u) = type_eq t u

-- Whether the elements of an array have this type. Types are compared as wholes: where no tag is declared twice, two struct
-- types are equal exactly where their tags are.
abbrev pub has_elements : TypeTree → Sort → Bool
has_elements t (a_place u) = is_type t (element_type u)
has_elements t (a_value k) = false
has_elements t a_void = false
has_elements t no_sort = false
