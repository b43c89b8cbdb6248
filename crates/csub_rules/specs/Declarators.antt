-- The types of declared names (C11 6.7.2, 6.7.6), and the rules on them.
use Rattle.std.specs.Prelude.{unsigned_abs, if◌then◌else◌}
use Rattle.std.specs.Prelude.{ℕ, ℤ, pos, List, [], ◌∷◌, length, Bool, false, Option, Some, None, option_map, is_some, not, ◌&&◌, ◌||◌, nat_lt}
use Rattle.std.specs.Int.RustNames.{int_le}
use Rattle.std.specs.List.{list_any}
use Rattle.csub_text.specs.declared.span.Span.{Span}
use Rattle.csub_types.specs.declared.kind.IntKind.TheVariants.{Int}
use Rattle.csub_tree.specs.declared.name.Name.{Name as NameAt}
use Rattle.csub_tree.specs.declared.name.TypeName.{TypeName}
use Rattle.csub_tree.specs.declared.name.TypeName.TheVariants as names
use Rattle.csub_tree.specs.Expressions.{Expr}
use Rattle.csub_objects.specs.Types.{Name, TypeTree, number_type, array_type, struct_type}
use Rattle.csub_scopes.specs.Scopes.{Scope, Tagged, find_tag}
use Rattle.csub_rules.specs.declared.fault.Fault.{Fault}
use Rattle.csub_rules.specs.Faults.{fault_if, ◌or_earlier◌}
use Rattle.csub_rules.specs.ExprSorts.{number_of}
use Rattle.csub_rules.specs.Constants.{constant}
use Rattle.csub_rules.specs.Uses.{as_constant, use_fault}
use Rattle.csub_rules.specs.Sizes.{is_sized}

-- the struct of a tag, where a struct of this tag is defined before (C11 6.7.2.3p4); the tag of an enum names none
abbrev pub struct_of : Name → Option Tagged → Option TypeTree
struct_of tag None = None
struct_of tag (Some d) = option_map (struct_type tag) d.members

-- the type of a number, `int` for `void`, with which no declaration and no parameter of a source begins
abbrev pub number_base : TypeName → Option TypeTree
number_base names.Void = Some (number_type Int)
number_base base = option_map number_type (number_of base)

-- the type that a declaration begins with
abbrev pub base_type : Scope → TypeName → Option TypeTree
base_type scope (names.Struct tag) = struct_of tag.text (find_tag tag.text scope.tags)
base_type scope base = number_base base

-- M4: a struct isn't defined before its use, which a struct within itself isn't either
abbrev pub lacks_struct : Scope → NameAt → Bool
lacks_struct scope tag = not (is_some (base_type scope (names.Struct tag)))

-- the earliest fault of the type that a declaration begins with
abbrev pub base_fault : Scope → TypeName → Option Fault
base_fault scope names.Void = None
base_fault scope names.Char = None
base_fault scope names.Int = None
base_fault scope names.Unsigned = None
base_fault scope (names.Struct tag) = fault_if (lacks_struct scope tag) 4 tag.span

-- a number that may be an array's length: 1 to 65,536 (C11 6.7.6.2p1 asks for at least 1)
abbrev pub as_length : ℤ → Option ℕ
as_length v = if int_le (pos 1) v && int_le v (pos 65536) then Some (unsigned_abs v) else None

abbrev pub length_of : Option ℤ → Option ℕ
length_of None = None
length_of (Some v) = as_length v

abbrev pub array_of : Option ℕ → Option TypeTree → Option TypeTree
array_of None t = None
array_of (Some n) None = None
array_of (Some n) (Some t) = Some (array_type t n)

-- the type of a name that is declared with lengths, the outermost first (C11 6.7.6.2p3); none where one of its parts is none
abbrev pub declared_type : Scope → Option TypeTree → List Expr → Option TypeTree
declared_type scope base [] = base
declared_type scope base (d ∷ dims) = array_of (length_of (constant scope d)) (declared_type scope base dims)

-- M10: a length is a constant, and isn't 1 to 65,536
abbrev pub is_bad_length : Option ℤ → Bool
is_bad_length None = false
is_bad_length (Some v) = not (is_some (as_length v))

-- M10: an object may not have the type
abbrev pub is_too_large : Option TypeTree → Bool
is_too_large None = false
is_too_large (Some t) = not (is_sized t)

-- M10: a length isn't 1 to 65,536, there are more than 3 dimensions, or the type is too large
abbrev pub breaks_limits : Scope → Option TypeTree → List Expr → Bool
breaks_limits scope base dims =
    list_any (λ d. is_bad_length (constant scope d)) dims || (nat_lt 3 (length dims) || is_too_large (declared_type scope base dims))

-- the type of a declared object, and none where its declaration breaks a rule on types
abbrev pub if_sized : Option TypeTree → Option TypeTree
if_sized None = None
if_sized (Some t) = if is_sized t then Some t else None

abbrev pub object_type : Scope → Option TypeTree → List Expr → Option TypeTree
object_type scope base dims = if_sized (declared_type scope base dims)

-- the earliest fault of lengths, each a constant
abbrev pub dims_fault : Scope → List Expr → Option Fault
dims_fault scope [] = None
dims_fault scope (d ∷ dims) = use_fault scope as_constant d or_earlier dims_fault scope dims

-- the earliest fault of a declared name at its place with its lengths, its initialiser aside
abbrev pub slot_fault : Scope → Option TypeTree → Span → List Expr → Option Fault
slot_fault scope base at dims = fault_if (breaks_limits scope base dims) 10 at or_earlier dims_fault scope dims
