-- What a declared type of the code stands for.
use Rattle.csub_objects.specs.declared.types.CType.{CType}
use Rattle.csub_objects.specs.declared.types.CType.TheVariants.{Num, Array, Struct, Loose}
use Rattle.csub_objects.specs.declared.types.Member.{Member}
use Rattle.csub_objects.specs.Types.{TypeTree, number_type, array_type, struct_type, loose_type, MemberTree, members_of}

-- an element stands for its type already, and members for theirs
abbrev pub type_tree : CType → TypeTree
type_tree (Num kind) = number_type kind
type_tree (Array t n) = array_type t n
type_tree (Struct tag ms) = struct_type tag (members_of ms)
type_tree (Loose t) = loose_type t

abbrev pub member_tree : Member → MemberTree
member_tree m = record { name = m.name; ctype = type_tree m.ctype }
