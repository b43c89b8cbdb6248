-- What names mean in a scope is what a program has.
use Rattle.std.proofs.Common.{◌≡◌, List, Option, Some, None}
use Rattle.csub_types.specs.declared.kind.IntKind.TheVariants.{Int}
use Rattle.csub_types.specs.Kinds.{IsOf}
use Rattle.csub_objects.specs.Types.{Name}
use Rattle.csub_semantics.specs.Types.{GlobalTree}
use Rattle.csub_semantics.specs.Syntax.{LocalTree}
use Rattle.csub_scopes.specs.Scopes.{Scope, Declared, Meaning, global_object, local_object, enum_constant, a_function, untyped, find}
use Rattle.csub_validity.specs.Valid.{global_type, type_in}

-- an object is one of the program, with its type, and an enum constant an `int`
abbrev pub IsMeant : List GlobalTree → List LocalTree → Name → Meaning → Type 0
IsMeant globals objects x (global_object t) = global_type globals x ≡ Some t
IsMeant globals objects x (local_object n t) = type_in objects x n ≡ Some t
IsMeant globals objects x (enum_constant v) = IsOf Int v
IsMeant globals objects x (a_function params result) = Unit {0}
IsMeant globals objects x untyped = Unit {0}

abbrev pub IsKnown : List GlobalTree → List LocalTree → Name → Option Declared → Type 0
IsKnown globals objects x None = Unit {0}
IsKnown globals objects x (Some d) = IsMeant globals objects x d.means

pub record Agrees (globals : List GlobalTree) (objects : List LocalTree) (scope : Scope) : Type 0 where
  pub known : (x : Name) → IsKnown globals objects x (find x scope.names)
