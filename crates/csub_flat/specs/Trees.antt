-- Flat labels as values: trees with slots in place of names.
use Rattle.std.specs.Prelude.{ℕ, List, Option}
use Rattle.csub_types.specs.declared.kind.IntKind.{IntKind}
use Rattle.csub_semantics.specs.declared.label.EndRule.{EndRule}
use Rattle.csub_semantics.specs.Trees.{PlaceTree, ExprTree, ExprTrees}

-- what is at a place: the declared kind of a number (`int` where there is none), and how many elements an array has (0
-- where there is none)
pub record Form : Type 0 where
  pub kind : IntKind
  pub length : ℕ

-- a variable, with what is there: a slot of the frame, counted from the frame's first, or one of the globals
pub data FlatVariable : Type 0 where
  frame_slot : ℕ → Form → FlatVariable
  global_slot : ℕ → Form → FlatVariable
  -- an array parameter: the slot of the frame that says where its array begins and how many elements that has (C11
  -- 6.7.6.3p7); the form is that of the array, without its length
  referring_slot : ℕ → Form → FlatVariable

abbrev pub variable_form : FlatVariable → Form
variable_form (frame_slot s form) = form
variable_form (global_slot s form) = form
variable_form (referring_slot s form) = form

-- a part of an array or of a struct, with what is there: how many slots an element has, or how many are before a member
pub record FlatPart : Type 0 where
  pub slots : ℕ
  pub form : Form

-- places and expressions of slots
abbrev pub FlatPlace : Type 0
FlatPlace = PlaceTree FlatVariable FlatPart FlatPart

abbrev pub FlatExpr : Type 0
FlatExpr = ExprTree FlatVariable FlatPart FlatPart

abbrev pub FlatExprs : Type 0
FlatExprs = ExprTrees FlatVariable FlatPart FlatPart

-- what an argument gives to its parameter: a number in the parameter's kind, or where an array is
pub data FlatGiven : Type 0 where
  number_of : IntKind → FlatExpr → FlatGiven
  array_at : FlatPlace → FlatGiven

-- an argument, with the slot of its parameter in a frame of the callee
pub record FlatArg : Type 0 where
  pub slot : ℕ
  pub given : FlatGiven

-- a call: the number of the callee's entry, the count of its slots, the arguments, and the slot of the temporary that
-- takes the result
pub record FlatCall : Type 0 where
  pub entry : ℕ
  pub size : ℕ
  pub args : List FlatArg
  pub temp : Option ℕ

-- a step of an initialiser: a number goes to a slot of the frame in a kind, or 0 goes to so many slots from one on
pub data FlatWrite : Type 0 where
  writes : ℕ → IntKind → FlatExpr → FlatWrite
  clears : ℕ → ℕ → FlatWrite

-- what is done at a point
pub data FlatLabel : Type 0 where
  -- nothing, as at an entry, at a return without a value and at a `goto`
  goes_on : FlatLabel
  -- the end of a function, with the first temporary, which that of `#start` reads
  leaves_by : EndRule → FlatVariable → FlatLabel
  -- an expression for its effects
  does : FlatExpr → FlatLabel
  -- an object gets its initial contents, one step after another
  begins : List FlatWrite → FlatLabel
  tests : FlatExpr → FlatLabel
  -- the value of a `switch`, which decides its way out
  chooses : FlatExpr → FlatLabel
  -- a return with a value, which is converted to a kind
  answers : IntKind → FlatExpr → FlatLabel
  -- the end of the run, with the low 8 bits of a value
  halts : FlatExpr → FlatLabel
  enters_callee : FlatCall → FlatLabel
