-- Declared names, what they mean, and the look-up of a name from the innermost scope outwards (C11 6.2.1 and 6.2.3).
use Rattle.std.specs.Prelude.{ℕ, ℤ, List, [], ◌∷◌, Bool, true, false, IsTrue, Option, Some, None, bytes_eq, if◌then◌else◌}
use Rattle.csub_types.specs.declared.kind.IntKind.{IntKind}
use Rattle.csub_objects.specs.Types.{Name, TypeTree, MemberTrees}

-- What a name means: an object of file scope; an object of the function, which is the k-th of its name there, parameters
-- counted first; an enum constant; a function, with the types of its parameters and of its result; or an object whose
-- declaration has a type that breaks a rule, so that it has none.
pub data Meaning : Type 0 where
  global_object : TypeTree → Meaning
  local_object : ℕ → TypeTree → Meaning
  enum_constant : ℤ → Meaning
  a_function : List TypeTree → Option IntKind → Meaning
  untyped : Meaning

-- a declaration of a name; the depth is the number of blocks that stand round it, 0 at file scope
pub record Declared : Type 0 where
  pub name : Name
  pub depth : ℕ
  pub means : Meaning

-- a declaration of a tag: of a struct with its members, or of an enum, which has none
pub record Tagged : Type 0 where
  pub tag : Name
  pub members : Option MemberTrees

-- what is declared at a place, the innermost and the latest first; tags have a name space of their own (C11 6.2.3)
pub record Scope : Type 0 where
  pub names : List Declared
  pub tags : List Tagged

-- an inner declaration hides an outer one (C11 6.2.1p4)
abbrev pub find : Name → List Declared → Option Declared
find name [] = None
find name (d ∷ rest) = if bytes_eq d.name name then Some d else find name rest

abbrev pub find_tag : Name → List Tagged → Option Tagged
find_tag tag [] = None
find_tag tag (d ∷ rest) = if bytes_eq d.tag tag then Some d else find_tag tag rest

-- every object that a name refers to has a type
abbrev pub is_typed : Meaning → Bool
is_typed (global_object t) = true
is_typed (local_object k t) = true
is_typed (enum_constant v) = true
is_typed (a_function params result) = true
is_typed untyped = false

abbrev pub finds_type : Option Declared → Bool
finds_type None = true
finds_type (Some d) = is_typed d.means

abbrev pub HasTypes : Scope → Type 0
HasTypes scope = (name : Name) → IsTrue (finds_type (find name scope.names))
