-- Where the code stands, and what it answers for a turn.
use Rattle.std.specs.Prelude.{ℕ, ◌≡◌, ◌<◌, ◌≤◌, ◌+◌, List, [], ◌∷◌, map, reverse, length, All, true, Option, Some, None}
use Rattle.csub_semantics.specs.Syntax.{FunctionTree, ProgramTree, no_stmt}
use Rattle.csub_semantics.specs.Flows.{point_list, edge_list, flow_of, function_of}
use Rattle.csub_semantics.specs.declared.status.Status.{Status}
use Rattle.csub_semantics.specs.Acts.{Store, most_frames}
use Rattle.csub_semantics.specs.Runs as the
use Rattle.csub_semantics.specs.Runs.{after}
use Rattle.csub_flat.specs.Frames.{globals_of}
use Rattle.csub_flat.specs.Sites.{place_of}
use Rattle.csub_slots.specs.Layout.{live_size}
use Rattle.csub_slots.specs.Acts.{FlatStore}
use Rattle.csub_slots.specs.Like.{Like, SameText}
use Rattle.csub_slots.specs.Seen.{slot_seen}
use Rattle.csub_slots.specs.States.{state_of}
use Rattle.csub_machine.specs.Moments.{IsRunningAt, output_of, turns_of, crossed_of}
use Rattle.csub_machine.specs.Crossed.{edge_of, crossed_row}
use Rattle.csub_machine.specs.declared.run.Run.{Run}
use Rattle.csub_machine.specs.declared.frames.Frame.{Frame}
use Rattle.csub_machine.specs.declared.frames.Frames.{Frames}
use Rattle.csub_machine.specs.declared.turn.Turn.{Turn}
use Rattle.csub_machine.specs.declared.turn.Turn.TheVariants.{Goes, Stops, Lost}

-- the function of a name, if there is one, and else one without anything
abbrev pub function_or : Option FunctionTree → FunctionTree
function_or (Some f) = f
function_or None = record { name = []; params = []; result = None; body = no_stmt; span = record { start = 0; «end» = 0 }; locals = []; temps = 0 }

-- the function of a frame
abbrev pub live_function : ProgramTree → Frame → FunctionTree
live_function P f = function_or (function_of P (place_of P f.point).function)

-- the functions of the frames below the top one, the highest first
abbrev pub live_below : ProgramTree → List Frame → List FunctionTree
live_below P below = map (live_function P) (reverse below)

abbrev pub live_of : ProgramTree → Frames → List FunctionTree
live_of P frames = live_function P frames.top ∷ live_below P frames.below.items

-- a frame by the number of its point
abbrev pub frame_of : ProgramTree → Frame → the.Frame
frame_of P f = record { function = (place_of P f.point).function; point = (place_of P f.point).point; result = f.result }

-- the frames below the top one, the highest first
abbrev pub below_of : ProgramTree → List Frame → List the.Frame
below_of P below = reverse (map (frame_of P) below)

-- where the code stands, over named cells
abbrev pub standing_of : ProgramTree → Frames → Store → the.Standing
standing_of P frames s = record { frames = frame_of P frames.top ∷ below_of P frames.below.items; store = s }

-- the slots of each frame, the top one first, begin behind those of the frames below it
abbrev pub AreBased : ProgramTree → List Frame → Type 0
AreBased P [] = Unit {0}
AreBased P (f ∷ below) = (f.base ≡ live_size (globals_of P) (map (live_function P) below)) × AreBased P below

-- every frame stands at a point and has its slots, of which there are so many, and there are no more frames than a run may have
pub record AreFrames (P : ProgramTree) (frames : Frames) (slots : ℕ) : Type 0 where
  pub top : frames.top.point < length (point_list P)
  pub below : All (λ f. f.point < length (point_list P)) frames.below.items
  pub few : length frames.below.items + 1 ≤ most_frames
  pub based : AreBased P (frames.top ∷ reverse frames.below.items)
  pub count : slots ≡ live_size (globals_of P) (live_of P frames)

-- what a turn of named cells leads to, and that of the code
pub record GoesTo (P : ProgramTree) (t : the.Turn) (e : Option ℕ) (frames : Frames) (s' : FlatStore) : Type 0 where
  pub store : Store
  pub goes : t ≡ the.goes (edge_of P e) (standing_of P frames store)
  pub like : Like (globals_of P) (live_of P frames) store s'
  pub ready : AreFrames P frames (length s'.cells)

pub record StopsWith (t : the.Turn) (status : Status) (s' : FlatStore) : Type 0 where
  pub store : Store
  pub stops : t ≡ the.stops status store
  pub text : SameText store s'

abbrev pub Moves : ProgramTree → the.Turn → Turn → Frames → FlatStore → Type 0
Moves P t (Goes e) frames s' = GoesTo P t e frames s'
Moves P t (Stops status) frames s' = StopsWith t status s'
Moves P t Lost frames s' = t ≡ the.lost

-- the edge that is crossed, if any, is one of the program
abbrev pub IsOfProgram : ProgramTree → Option ℕ → Type 0
IsOfProgram P None = Unit {0}
IsOfProgram P (Some e) = e < length (edge_list P)

abbrev pub CrossesOfProgram : ProgramTree → Turn → Type 0
CrossesOfProgram P (Goes e) = IsOfProgram P e
CrossesOfProgram P (Stops status) = Unit {0}
CrossesOfProgram P Lost = Unit {0}

-- what a turn along a way out leads to, for any frames below and any store
abbrev pub Crosses : ProgramTree → the.Turn → Turn → the.Standing → Type 0
Crosses P t (Goes e) at = t ≡ the.goes (edge_of P e) at
Crosses P t (Stops status) at = t ≡ the.stops status at.store
Crosses P t Lost at = t ≡ the.lost

-- the frame of a call goes on, above others of these functions
pub record ResumesTo (P : ProgramTree) (t : the.Turn) (e : Option ℕ) (top : Frame) (below : List the.Frame) (fs : List FunctionTree)
    (s' : FlatStore) : Type 0 where
  pub store : Store
  pub goes : t ≡ the.goes (edge_of P e) (record { frames = frame_of P top ∷ below; store = store })
  pub like : Like (globals_of P) (live_function P top ∷ fs) store s'

abbrev pub Resumes : ProgramTree → the.Turn → Turn → Frame → List the.Frame → List FunctionTree → FlatStore → Type 0
Resumes P t (Goes e) top below fs s' = ResumesTo P t e top below fs s'
Resumes P t (Stops status) top below fs s' = ⊥
Resumes P t Lost top below fs s' = t ≡ the.lost

-- where a run stands at a moment at which it goes on: the slots stand for the cells of that moment
pub record StandsAt (P : ProgramTree) (run : Run) (m : the.Moment) : Type 0 where
  pub store : Store
  pub moment : m ≡ the.running (crossed_of m) (standing_of P run.frames store)
  pub like : Like (globals_of P) (live_of P run.frames) store (state_of run.store)
  pub frames : AreFrames P run.frames (length (map slot_seen run.store.slots.items))

-- the moment of a run of the code
abbrev pub moment_at : ProgramTree → Run → the.Moment
moment_at P run = after (flow_of P) run.store.input.items run.done

-- a run of the code shows the moment that it is at; it goes on exactly as long as the run does
pub record IsAt (P : ProgramTree) (run : Run) : Type 0 where
  pub standing : run.going ≡ true → StandsAt P run (moment_at P run)
  pub onward : IsRunningAt (moment_at P run) → run.going ≡ true
  pub output : run.store.output.items ≡ output_of (moment_at P run)
  pub turns : run.turns ≡ turns_of run.done (moment_at P run)
  pub crossed : run.crossed ≡ crossed_row P (crossed_of (moment_at P run))
