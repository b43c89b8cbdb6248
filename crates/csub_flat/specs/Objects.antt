-- The frames of functions, as the code keeps them and looks objects up in them.
use Rattle.std.specs.Prelude.{ℕ, ◌≡◌, List, length, slice_get, Option, Some}
use Rattle.std.specs.Option.{option_map, option_and_then}
use Rattle.std.specs.Ordering.{nat_cmp}
use Rattle.std.specs.Cmp.Lexicographic.{slice_cmp}
use Rattle.std.specs.BTreeMap.{BTreeMap, get}
use Rattle.csub_objects.specs.Types.{Name}
use Rattle.csub_objects.specs.Paths.{moved}
use Rattle.csub_semantics.specs.Syntax.{LocalTree, FunctionTree}
use Rattle.csub_validity.specs.Valid.{objects_of}
use Rattle.csub_flat.specs.Frames.{objects_size, place_in, frame_size}
use Rattle.csub_flat.specs.declared.frame.Frame.{Frame}

-- slots by the numbers of objects, and then by their names
abbrev pub ObjectSlots : Type 0
ObjectSlots = BTreeMap ℕ (BTreeMap Name ℕ)

-- the slot of a name with a number
abbrev pub slot_at : ObjectSlots → Name → ℕ → Option ℕ
slot_at slots a n = option_and_then (λ named. get (slice_cmp nat_cmp) named a) (get nat_cmp slots n)

-- objects one after another from slot k on: each name with a number has the slot of the first object that has both, and
-- no slot where there is none
abbrev pub AreObjectSlots : ℕ → List LocalTree → ObjectSlots → Type 0
AreObjectSlots k os slots = (a : Name) (n : ℕ) → slot_at slots a n ≡ option_map (λ x. x.at) (moved k (place_in os a n))

-- the frame of a function: the slots of its objects, the first slot behind them, and how many slots there are
pub record IsFrameOf (f : FunctionTree) (frame : Frame) : Type 0 where
  pub slots : AreObjectSlots 0 (objects_of f) frame.slots
  pub first : frame.first ≡ objects_size (objects_of f)
  pub size : frame.size ≡ frame_size f

-- those of functions, one for each
pub record AreFramesOf (fs : List FunctionTree) (frames : List Frame) : Type 0 where
  pub count : length frames ≡ length fs
  pub each : (i : ℕ) (f : FunctionTree) (frame : Frame) → slice_get fs i ≡ Some f → slice_get frames i ≡ Some frame → IsFrameOf f frame
