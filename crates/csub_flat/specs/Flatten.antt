-- Flat copies: slots in place of names.
use Rattle.std.specs.Prelude.{ℕ, zero, suc, ◌+◌, ◌-◌, ◌*◌, List, [], ◌∷◌, ◌++◌, Option, Some, None}
use Rattle.std.specs.Option.{option_and_then}
use Rattle.csub_types.specs.declared.kind.IntKind.TheVariants.{Int}
use Rattle.csub_objects.specs.Types.{Name, TypeTree, number_type, array_type, struct_type, loose_type, MemberTree}
use Rattle.csub_objects.specs.Types.{MemberTrees, no_member, more_members, number_kind, array_length, member_type}
use Rattle.csub_objects.specs.Types.{cells, member_cells, first_cell}
use Rattle.csub_semantics.specs.Trees.{NamedPlace, NamedExpr, NamedArg, Variable, variable, element_place, member_place, object, temporary}
use Rattle.csub_semantics.specs.Trees.{global_owner, local_owner}
use Rattle.csub_semantics.specs.Trees.{constant, reading, unary_operation, conversion, stepping, operation, conjunction, disjunction, choice}
use Rattle.csub_semantics.specs.Trees.{assignment, update, input_byte, output_byte, formatted, value_argument, array_argument}
use Rattle.csub_semantics.specs.Trees.{NamedExprs, no_expr, more_exprs}
use Rattle.csub_semantics.specs.Labels.{InitTree, one_value, listed, InitTrees, no_init, more_inits}
use Rattle.csub_semantics.specs.Syntax.{LocalTree, FunctionTree}
use Rattle.csub_validity.specs.Valid.{objects_of, place_type}
use Rattle.csub_objects.specs.Paths.{Inside}
use Rattle.csub_flat.specs.Frames.{objects_size, place_in, temporary_place, variable_place}
use Rattle.csub_flat.specs.Trees.{Form, FlatVariable, frame_slot, global_slot, referring_slot, FlatPart, FlatPlace, FlatExpr, FlatExprs}
use Rattle.csub_flat.specs.Trees.{FlatGiven, number_of, array_at, FlatArg, FlatWrite, writes, clears}

-- a place's slot; in a valid program each has one
abbrev pub slot_or : Option Inside → ℕ
slot_or None = 0
slot_or (Some x) = x.at

-- the slot of a temporary of a function
abbrev pub temp_slot : FunctionTree → ℕ → ℕ
temp_slot f n = slot_or (temporary_place (objects_size (objects_of f)) f.temps n)

-- what is at a place of a type
abbrev pub form_of : TypeTree → Form
form_of t = record { kind = number_kind t; length = array_length t }

-- the slot of a parameter of a function, the first object of its name
abbrev pub parameter_slot : FunctionTree → MemberTree → ℕ
parameter_slot f p = slot_or (place_in (objects_of f) p.name 1)

-- an object of a function, by its slot: an array parameter refers to its array, and any other object is itself there
abbrev pub local_variable : ℕ → TypeTree → FlatVariable
local_variable s (number_type k) = frame_slot s (form_of (number_type k))
local_variable s (array_type t n) = frame_slot s (form_of (array_type t n))
local_variable s (struct_type tag ms) = frame_slot s (form_of (struct_type tag ms))
local_variable s (loose_type t) = referring_slot s (form_of (loose_type t))

-- a part of a type with so many slots, or behind so many; in a valid program each part has a type
abbrev pub part_of : ℕ → Option TypeTree → FlatPart
part_of n None = record { slots = n; form = form_of (number_type Int) }
part_of n (Some t) = record { slots = n; form = form_of t }

abbrev pub cells_or : Option TypeTree → ℕ
cells_or None = 0
cells_or (Some t) = cells t

abbrev pub cell_or : Option ℕ → ℕ
cell_or None = 0
cell_or (Some n) = n

-- an element, by its type: as many slots as an object of the type has cells
abbrev pub element_part : Option TypeTree → FlatPart
element_part t = part_of (cells_or t) t

-- a member, by its name and the type of the struct: behind the slots of the members before it
abbrev pub member_part : Name → Option TypeTree → FlatPart
member_part a t = part_of (cell_or (option_and_then (first_cell a) t)) (option_and_then (member_type a) t)

-- 0 in so many slots, from one on
abbrev pub cleared : ℕ → ℕ → List FlatWrite
cleared s zero = []
cleared s (suc n) = clears s (suc n) ∷ []

-- what stands in a function, beside these globals
module _ (gs : List LocalTree) (f : FunctionTree) where
  -- the slot of a variable, of the frame or of the globals
  abbrev pub variable_slot : Variable → ℕ
  variable_slot v = slot_or (variable_place gs f v)

  abbrev pub flat_variable : Variable → FlatVariable
  flat_variable (object (global_owner a) t) = global_slot (variable_slot (object (global_owner a) t)) (form_of t)
  flat_variable (object (local_owner a n) t) = local_variable (variable_slot (object (local_owner a n) t)) t
  flat_variable (temporary n k) = frame_slot (variable_slot (temporary n k)) (form_of (number_type k))

  abbrev mutual
    pub flat_place : NamedPlace → FlatPlace
    flat_place (variable v) = variable (flat_variable v)
    flat_place (element_place u p e) = element_place (element_part (place_type (element_place u p e))) (flat_place p) (flattened e)
    flat_place (member_place a p) = member_place (member_part a (place_type p)) (flat_place p)

    pub flattened : NamedExpr → FlatExpr
    flattened (constant k v) = constant k v
    flattened (reading p) = reading (flat_place p)
    flattened (unary_operation op k a) = unary_operation op k (flattened a)
    flattened (conversion k a) = conversion k (flattened a)
    flattened (stepping op p) = stepping op (flat_place p)
    flattened (operation op k a b) = operation op k (flattened a) (flattened b)
    flattened (conjunction a b) = conjunction (flattened a) (flattened b)
    flattened (disjunction a b) = disjunction (flattened a) (flattened b)
    flattened (choice k c a b) = choice k (flattened c) (flattened a) (flattened b)
    flattened (assignment p e) = assignment (flat_place p) (flattened e)
    flattened (update p op k e) = update (flat_place p) op k (flattened e)
    flattened input_byte = input_byte
    flattened (output_byte e) = output_byte (flattened e)
    flattened (formatted pieces es) = formatted pieces (flattened_row es)

    pub flattened_row : NamedExprs → FlatExprs
    flattened_row no_expr = no_expr
    flattened_row (more_exprs e rest) = more_exprs (flattened e) (flattened_row rest)

  -- what an argument gives to a parameter
  abbrev pub flat_given : MemberTree → NamedArg → FlatGiven
  flat_given p (value_argument e) = number_of (number_kind p.ctype) (flattened e)
  flat_given p (array_argument a) = array_at (flat_place a)

  -- the arguments of a call, with the parameters of the callee
  abbrev pub paired : FunctionTree → List MemberTree → List NamedArg → List FlatArg
  paired callee [] args = []
  paired callee (p ∷ params) [] = []
  paired callee (p ∷ params) (a ∷ args) =
      record { slot = parameter_slot callee p; given = flat_given p a } ∷ paired callee params args

  -- The steps of an initialiser of an object, or of a part of one, whose first slot is given: a number is written in the
  -- declared kind (C11 6.7.9p11), and a list goes over the elements or members in order (p17), and then clears all others
  -- (p21).
  abbrev mutual
    pub flat_writes : TypeTree → ℕ → InitTree → List FlatWrite
    flat_writes t s (one_value e) = writes s (number_kind t) (flattened e) ∷ []
    flat_writes (number_type k) s (listed xs) = []
    flat_writes (array_type t n) s (listed xs) = element_writes t n 0 s xs
    flat_writes (struct_type tag ms) s (listed xs) = member_writes ms s xs
    flat_writes (loose_type t) s (listed xs) = []

    -- the elements of an array from one on, whose first slot is given
    pub element_writes : TypeTree → ℕ → ℕ → ℕ → InitTrees → List FlatWrite
    element_writes t n i s no_init = cleared s ((n - i) * cells t)
    element_writes t n i s (more_inits x rest) = flat_writes t s x ++ element_writes t n (i + 1) (s + cells t) rest

    pub member_writes : MemberTrees → ℕ → InitTrees → List FlatWrite
    member_writes ms s no_init = cleared s (member_cells ms)
    member_writes no_member s (more_inits x rest) = []
    member_writes (more_members a t ms) s (more_inits x rest) = flat_writes t s x ++ member_writes ms (s + cells t) rest
