-- What types the places that fit have.
use Rattle.std.proofs.Common.{◌≡◌, ◌≤◌, List, Option, Some, None, refl, subst, arith}
use Rattle.std.specs.Option.{option_and_then}
use Rattle.csub_objects.specs.Types.{Name, TypeTree, number_type, array_type, struct_type, loose_type}
use Rattle.csub_objects.specs.Types.{IsNumber, IsSized, element_type, member_type, cells}
use Rattle.csub_objects.proofs.LawsParts.{parts_sized}
use Rattle.csub_semantics.specs.Trees.{NamedPlace, variable, element_place, member_place}
use Rattle.csub_semantics.specs.Syntax.{LocalTree, FunctionTree}
use Rattle.csub_semantics.specs.Cells.{type_of}
use Rattle.csub_validity.specs.Valid.{IsParameter, place_type}
use Rattle.csub_flat.specs.Fits.{MayStand, FitsPlace}

pub number_sized : (t : TypeTree) → IsNumber t → IsSized t
number_sized (number_type k) h = record { arrays = tt; cells = omega arith; levels = omega arith }
number_sized (array_type t n) h = absurd h
number_sized (struct_type tag ms) h = absurd h
number_sized (loose_type t) h = absurd h

-- a type that objects may have may be that of a variable
pub sized_stands : (t : TypeTree) → IsSized t → MayStand t
sized_stands (number_type k) h = h
sized_stands (array_type t n) h = h
sized_stands (struct_type tag ms) h = h
sized_stands (loose_type t) h = absurd h.arrays

-- and so has each parameter one that may
pub parameter_stands : (t : TypeTree) → IsParameter t → MayStand t
parameter_stands (number_type k) h = number_sized (number_type k) tt
parameter_stands (array_type t n) h = absurd h
parameter_stands (struct_type tag ms) h = absurd h
parameter_stands (loose_type t) h = h

-- what may stand has few cells
pub stands_few : (t : TypeTree) → MayStand t → cells t ≤ 65536
stands_few (number_type k) h = h.cells
stands_few (array_type t n) h = h.cells
stands_few (struct_type tag ms) h = h.cells
stands_few (loose_type t) h = omega arith

-- the elements of what may stand have a type that objects may have
pub element_sized : (t u : TypeTree) → element_type t ≡ Some u → MayStand t → IsSized u
element_sized (number_type k) u e h = cc
element_sized (array_type t n) u e h = let same : t ≡ u = cc in subst IsSized same (parts_sized.0 t n h)
element_sized (struct_type tag ms) u e h = cc
element_sized (loose_type t) u e h = let same : t ≡ u = cc in subst IsSized same h

-- and so have its members
pub member_sized : (a : Name) (t u : TypeTree) → member_type a t ≡ Some u → MayStand t → IsSized u
member_sized a (number_type k) u e h = cc
member_sized a (array_type t n) u e h = cc
member_sized a (struct_type tag ms) u e h = parts_sized.1 a (struct_type tag ms) u e h
member_sized a (loose_type t) u e h = cc

-- a part of what is there
pub part_found : (part : TypeTree → Option TypeTree) (o : Option TypeTree) (u : TypeTree) → option_and_then part o ≡ Some u → (t : TypeTree) × (o ≡ Some t) × (part t ≡ Some u)
part_found part None u e = cc
part_found part (Some t) u e = (t, refl, e)

-- what stands at a place that fits
pub place_stands : (gs : List LocalTree) (f : FunctionTree) (p : NamedPlace) (t : TypeTree) → FitsPlace gs f p → place_type p ≡ Some t → MayStand t
place_stands gs f (variable v) t h e = let same : type_of v ≡ t = cc in subst MayStand same h.1
place_stands gs f (element_place u p i) t h e =
    let w = part_found element_type (place_type p) t e in
    sized_stands t (element_sized w.0 t w.2 (place_stands gs f p w.0 h.0 w.1))
place_stands gs f (member_place a p) t h e =
    let w = part_found (member_type a) (place_type p) t e in
    sized_stands t (member_sized a w.0 t w.2 (place_stands gs f p w.0 h w.1))
