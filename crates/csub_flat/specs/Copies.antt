-- The flat copy of a program: a copy of the label of each point.
use Rattle.std.specs.Prelude.{ℕ, ◌≡◌, ◌<◌, ◌≤◌, List, [], ◌∷◌, length, All, Option, Some, None, slice_index_or}
use Rattle.std.specs.Option.{option_map}
use Rattle.csub_types.specs.declared.kind.IntKind.TheVariants.{Int}
use Rattle.csub_semantics.specs.Trees.{object, temporary}
use Rattle.csub_semantics.specs.Labels.{LabelTree, enters, exits, evaluates, initialises, branches, switches, returns, jumps, halts, calls}
use Rattle.csub_semantics.specs.Labels.{AnswerTree, CallTree}
use Rattle.csub_semantics.specs.Syntax.{FunctionTree, ProgramTree}
use Rattle.csub_semantics.specs.Flows.{point_list, function_of}
use Rattle.csub_flat.specs.Sites.{place_of, HasLabel, IsEntry}
use Rattle.csub_flat.specs.Ways.{AreWaysOut}
use Rattle.csub_flat.specs.Frames.{objects_size, frame_size, globals_of}
use Rattle.csub_flat.specs.Trees.{FlatCall, FlatLabel, goes_on, leaves_by, does, begins, tests, chooses, answers, enters_callee}
use Rattle.csub_flat.specs.Trees as the
use Rattle.csub_flat.specs.Flatten.{flat_variable, variable_slot, flattened, flat_writes, paired, temp_slot}
use Rattle.csub_flat.specs.Fits.{FitsLabel}
use Rattle.csub_flat.specs.Seen.{label_seen}
use Rattle.csub_flat.specs.declared.program.FlatPoint.{FlatPoint}
use Rattle.csub_flat.specs.declared.program.FlatProgram.{FlatProgram}

-- the copy of a call, where the callee is known
pub record IsFlatCall (P : ProgramTree) (f : FunctionTree) (c : CallTree) (d : FlatCall) : Type 0 where
  pub callee : FunctionTree
  pub defined : function_of P c.callee ≡ Some callee
  pub entry : IsEntry P c.callee d.entry
  pub size : d.size ≡ frame_size callee
  pub args : d.args ≡ paired (globals_of P) f callee c.params c.args
  pub temp : d.temp ≡ option_map (temp_slot f) c.temp

abbrev pub IsFlatAnswer : ProgramTree → FunctionTree → Option AnswerTree → FlatLabel → Type 0
IsFlatAnswer P f None m = m ≡ goes_on
IsFlatAnswer P f (Some a) m = m ≡ answers a.kind (flattened (globals_of P) f a.value)

-- the label of a point of a function, and its copy
abbrev pub IsFlat : ProgramTree → FunctionTree → LabelTree → FlatLabel → Type 0
IsFlat P f enters m = m ≡ goes_on
IsFlat P f (exits rule) m = m ≡ leaves_by rule (flat_variable (globals_of P) f (temporary 1 Int))
IsFlat P f (evaluates e) m = m ≡ does (flattened (globals_of P) f e)
IsFlat P f (initialises owner t init) m =
    m ≡ begins (flat_writes (globals_of P) f t (variable_slot (globals_of P) f (object owner t)) init)
IsFlat P f (branches e) m = m ≡ tests (flattened (globals_of P) f e)
IsFlat P f (switches e) m = m ≡ chooses (flattened (globals_of P) f e)
IsFlat P f (returns answer) m = IsFlatAnswer P f answer m
IsFlat P f jumps m = m ≡ goes_on
IsFlat P f (halts e) m = m ≡ the.halts (flattened (globals_of P) f e)
IsFlat P f (calls c) m = (d : FlatCall) × (m ≡ enters_callee d) × IsFlatCall P f c d

-- the copy of the label of the point with a number
pub record IsCopyAt (P : ProgramTree) (n : ℕ) (m : FlatLabel) : Type 0 where
  pub function : FunctionTree
  pub label : LabelTree
  pub defined : function_of P (place_of P n).function ≡ Some function
  pub labelled : HasLabel P n label
  pub fits : FitsLabel P function label
  pub copy : IsFlat P function label m

-- the count of slots of the first function
abbrev pub first_in : List FunctionTree → ℕ
first_in [] = 0
first_in (f ∷ rest) = frame_size f

abbrev pub first_size : ProgramTree → ℕ
first_size P = first_in P.functions

-- the point with a number: the copy of its label, and its ways out
pub record IsPointAt (P : ProgramTree) (n : ℕ) (m : FlatPoint) : Type 0 where
  pub copy : IsCopyAt P n (label_seen m.label)
  pub ways : AreWaysOut P n m.ways

-- each point, the count of the globals' slots, and no frame larger than the greatest
pub record IsFlatOf (P : ProgramTree) (flat : FlatProgram) : Type 0 where
  pub count : length flat.points.items ≡ length (point_list P)
  pub each : (n : ℕ) (m : FlatPoint) → n < length flat.points.items → m ≡ slice_index_or flat.points.items n m → IsPointAt P n m
  pub globals : flat.sizes.globals ≡ objects_size (globals_of P)
  pub most : All (λ f. frame_size f ≤ flat.sizes.most) P.functions
  pub few : flat.sizes.globals ≤ 65536
  pub small : flat.sizes.most ≤ 4096
