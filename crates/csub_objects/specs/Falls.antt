-- A part of a type has fewer parts than the type. No definition of what types mean needs this file.
use Rattle.std.specs.Prelude.{◌≤◌, List, [], ◌∷◌, map}
use Rattle.std.proofs.Common.{arith}
use denote.Param.Weighed.{most}
use Rattle.csub_objects.specs.declared.types.CType.{CType}
use Rattle.csub_objects.specs.declared.types.CType.TheVariants.{Num, Array, Struct, Loose}
use Rattle.csub_objects.specs.declared.types.Member.{Member}
use Rattle.csub_objects.specs.declared.types.Element.TheInside.{Inside as ElementInside}
use Rattle.csub_objects.specs.declared.types.Members.TheInside.{Inside as MembersInside}
use Rattle.csub_objects.specs.declared.types.Element.TheDeep.{deep-CType, deep-Member, deep-Element, deep-Members}
use Rattle.csub_objects.specs.Types.{members_of}
use Rattle.csub_objects.specs.Codes.{type_size, members_size, list_size}
use Rattle.csub_objects.specs.Meaning.{type_tree, member_tree}

type_falls : (t : CType) → deep-CType t ≤ type_size (type_tree t)
type_falls (Num k) = omega arith
type_falls (Array t n) = omega arith
type_falls (Struct tag ms) = omega arith
type_falls (Loose t) = omega arith

list_falls : (ms : List Member) → most deep-Member ms ≤ members_size (members_of (map member_tree ms))
list_falls [] = omega arith
list_falls (m ∷ ms) = omega (arith, type_falls m.ctype, list_falls ms)

pub element_falls : (a : ElementInside) → deep-Element a ≤ type_size (type_tree a.shared.value)
element_falls a = omega (arith, type_falls a.shared.value)

pub members_fall : (a : MembersInside) → deep-Members a ≤ list_size (map member_tree a.shared.value.items.items)
members_fall a = omega (arith, list_falls a.shared.value.items.items)
