-- The slots of a frame: those of its function's objects one after another, its parameters first, and behind them those of
-- its temporaries. The slots of globals are numbered in the same way.
use Rattle.std.specs.Prelude.{ℕ, zero, suc, ◌+◌, ◌&&◌, List, [], ◌∷◌, map, nat_eq, nat_lt, Option, Some, None, if◌then◌else◌, bytes_eq}
use Rattle.csub_types.specs.declared.kind.IntKind.TheVariants.{Int}
use Rattle.csub_objects.specs.Types.{Name, TypeTree, number_type, array_type, struct_type, loose_type, MemberTrees, no_member, more_members, cells}
use Rattle.csub_objects.specs.Paths.{Inside, inside_at, moved}
use Rattle.csub_objects.specs.declared.types.Member.{Member}
use Rattle.csub_objects.specs.Meaning.{member_tree}
use Rattle.csub_semantics.specs.Types.{GlobalTree}
use Rattle.csub_semantics.specs.Trees.{Variable, object, temporary, global_owner, local_owner}
use Rattle.csub_semantics.specs.Syntax.{LocalTree, FunctionTree, ProgramTree}
use Rattle.csub_semantics.specs.Cells.{Root, global_root, local_root, temp_root}
use Rattle.csub_validity.specs.Valid.{objects_of, parameter_object}

-- a type without the kinds of its numbers: slots are alike for all of them, and a temporary has numbers of several kinds
abbrev mutual
  pub plain : TypeTree → TypeTree
  plain (number_type k) = number_type Int
  plain (array_type t n) = array_type (plain t) n
  plain (struct_type tag ms) = struct_type tag (plain_members ms)
  plain (loose_type t) = loose_type (plain t)

  pub plain_members : MemberTrees → MemberTrees
  plain_members no_member = no_member
  plain_members (more_members x t rest) = more_members x (plain t) (plain_members rest)

-- the count of slots of objects
abbrev pub objects_size : List LocalTree → ℕ
objects_size [] = 0
objects_size (o ∷ rest) = cells o.ctype + objects_size rest

-- a parameter as an object
abbrev pub as_object : Member → LocalTree
as_object p = parameter_object (member_tree p)

-- where the object with a name and a number among those of its name is
abbrev pub place_in : List LocalTree → Name → ℕ → Option Inside
place_in [] a n = None
place_in (o ∷ rest) a n =
    if bytes_eq o.name a && nat_eq o.number n then Some (inside_at 0 (plain o.ctype)) else moved (cells o.ctype) (place_in rest a n)

-- where a temporary is, by its number from 1
abbrev pub temporary_place : ℕ → ℕ → ℕ → Option Inside
temporary_place before temps zero = None
temporary_place before temps (suc n) = if nat_lt n temps then Some (inside_at (before + n) (number_type Int)) else None

-- where a root of any frame of the function is in that frame
abbrev pub frame_place : FunctionTree → Root → Option Inside
frame_place f (global_root a) = None
frame_place f (local_root h a n) = place_in (objects_of f) a n
frame_place f (temp_root h n) = temporary_place (objects_size (objects_of f)) f.temps n

-- the count of slots of a frame
abbrev pub frame_size : FunctionTree → ℕ
frame_size f = objects_size (objects_of f) + f.temps

-- a global as an object, with the number 0
abbrev pub global_object : GlobalTree → LocalTree
global_object g = record { name = g.name; number = 0; ctype = g.ctype }

-- the globals of a program
abbrev pub globals_of : ProgramTree → List LocalTree
globals_of P = map global_object P.globals

-- where a root is among globals
abbrev pub global_place : List LocalTree → Root → Option Inside
global_place gs (global_root a) = place_in gs a 0
global_place gs (local_root h a n) = None
global_place gs (temp_root h n) = None

-- where a variable is: a global among the globals, and any other in the frame
abbrev pub variable_place : List LocalTree → FunctionTree → Variable → Option Inside
variable_place gs f (object (global_owner a) t) = place_in gs a 0
variable_place gs f (object (local_owner a n) t) = place_in (objects_of f) a n
variable_place gs f (temporary n k) = temporary_place (objects_size (objects_of f)) f.temps n
