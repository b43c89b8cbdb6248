-- Turns and runs over the record of functions of a program.
use Rattle.std.specs.Prelude.{ℕ, zero, suc, ◌+◌, ℤ, List, [], ◌∷◌, Option, Some, None, length, slice_get, if◌then◌else◌}
use Rattle.std.specs.Option.{option_map, option_and_then}
use Rattle.std.specs.List.{list_any}
use Rattle.std.specs.Ordering.{int_eq}
use Rattle.csub_semantics.specs.declared.status.Status.{Status}
use Rattle.csub_semantics.specs.declared.status.Status.TheVariants.{Turns}
use Rattle.csub_objects.specs.Types.{Name}
use Rattle.csub_semantics.specs.Types.{GlobalTree}
use Rattle.csub_semantics.specs.Labels.{CallTree, call_of, PointLabel}
use Rattle.csub_semantics.specs.Points.{PointTree, entry, ExitTree, next, on_case, on_default}
use Rattle.csub_semantics.specs.Flows.{Flow, Edge, start_name}
use Rattle.csub_objects.specs.Paths.{Inner, cell_number}
use Rattle.csub_semantics.specs.Cells.{Cells, Root, global_root, local_root, temp_root, Content, number, written}
use Rattle.csub_semantics.specs.Acts.{Store, Outcome, leaves, gives, pushes, pops, ends, act}

-- a frame: its function, its point, and what the function returned, if it did
pub record Frame : Type 0 where
  pub function : Name
  pub point : PointTree
  pub result : Option ℤ

-- where a run stands: its frames, the top one first, and the store
pub record Standing : Type 0 where
  pub frames : List Frame
  pub store : Store

-- one turn goes on, having crossed an edge or none, or stops the run. A turn is lost where a point has no label or no
-- such way out; in a valid program no turn is
pub data Turn : Type 0 where
  goes : Option Edge → Standing → Turn
  stops : Status → Store → Turn
  lost : Turn

abbrev pub edge_of : Frame → ExitTree → Edge
edge_of f x = record { function = f.function; from = f.point; exit = x }

-- the way out of a switch at a value: its case, or else its default
abbrev pub exit_at : List ℤ → ℤ → ExitTree
exit_at values v = if list_any (λ w. int_eq w v) values then on_case v else on_default values

-- the top frame crosses the edge along x, where there is one
abbrev pub cross : Frame → List Frame → ExitTree → Option ℤ → Store → Option PointTree → Turn
cross top below x r s None = lost
cross top below x r s (Some q) =
    goes (Some (edge_of top x)) (record { frames = record { function = top.function; point = q; result = r } ∷ below; store = s })

-- a result goes into the temporary of the call, in the frame at a height
abbrev pub put_result : ℕ → Option ℕ → Option ℤ → Store → Store
put_result h None r s = s
put_result h (Some k) None s = s
put_result h (Some k) (Some v) s = record s { cells = written s.cells (record { root = temp_root h k; path = [] }) (number v) }

-- a result comes back to a frame that stands at a call: its Next edge is crossed as the callee's exit is executed
abbrev pub come_back_to : Frame → List Frame → Option ℤ → Store → Option CallTree → Option PointTree → Turn
come_back_to f below r s None to = lost
come_back_to f below r s (Some c) to = cross f below next f.result (put_result (length below) c.temp r s) to

abbrev pub come_back : Frame → List Frame → Option ℤ → Store → Option PointLabel → Option PointTree → Turn
come_back f below r s None to = lost
come_back f below r s (Some l) to = come_back_to f below r s (call_of l.tree) to

abbrev pub pop : Flow → List Frame → Option ℤ → Store → Turn
pop P [] r s = lost
pop P (f ∷ below) r s = come_back f below r s (P.label f.function f.point) (P.succ f.function f.point next)

abbrev pub follow : Flow → Frame → List Frame → Outcome → Turn
follow P top below (leaves x r s) = cross top below x r s (P.succ top.function top.point x)
follow P top below (gives v s) =
    let x = exit_at (P.cases top.function top.point) v in cross top below x top.result s (P.succ top.function top.point x)
follow P top below (pushes g s) =
    goes None (record { frames = record { function = g; point = entry; result = None } ∷ top ∷ below; store = s })
follow P top below (pops r s) = pop P below r s
follow P top below (ends t s) = stops t s

abbrev pub turn_at : Flow → Frame → List Frame → Store → Option PointLabel → Turn
turn_at P top below s None = lost
turn_at P top below s (Some l) = follow P top below (act l.tree (length below + 1) top.result s)

abbrev pub turn_of : Flow → List Frame → Store → Turn
turn_of P [] s = lost
turn_of P (top ∷ below) s = turn_at P top below s (P.label top.function top.point)

-- one turn acts on the top frame's label
abbrev pub turn : Flow → Standing → Turn
turn P at = turn_of P at.frames at.store

-- where a run is after some turns: the edges that it crossed, the latest first, and where it stands or how it ended
pub data Moment : Type 0 where
  running : List Edge → Standing → Moment
  ended : List Edge → ℕ → Status → Store → Moment
  nowhere : Moment

abbrev pub crossing : Option Edge → List Edge → List Edge
crossing None es = es
crossing (Some e) es = e ∷ es

abbrev pub after_turn : ℕ → List Edge → Turn → Moment
after_turn k es (goes c at) = running (crossing c es) at
after_turn k es (stops t s) = ended es (k + 1) t s
after_turn k es lost = nowhere

abbrev pub go_on : Flow → ℕ → Moment → Moment
go_on P k (running es at) = after_turn k es (turn P at)
go_on P k (ended es n t s) = ended es n t s
go_on P k nowhere = nowhere

-- what the cell of a global at a path holds at first
abbrev pub initial_content : Option GlobalTree → List Inner → Option Content
initial_content None path = None
initial_content (Some g) path = option_map number (option_and_then (slice_get g.initial) (cell_number g.ctype path))

abbrev pub initial_at : Flow → Root → List Inner → Option Content
initial_at P (global_root a) path = initial_content (P.global a) path
initial_at P (local_root h a n) path = None
initial_at P (temp_root h n) path = None

-- a run begins with the cells of all globals, which hold their initial contents, and no others
abbrev pub initial_cells : Flow → Cells
initial_cells P = λ c. initial_at P c.root c.path

-- a run begins with one frame at the entry of `#start`
abbrev pub opening : Flow → List ℕ → Standing
opening P input = record {
  frames = record { function = start_name; point = entry; result = None } ∷ [];
  store = record { input = input; output = []; cells = initial_cells P };
}

-- where the run is after k turns
abbrev pub after : Flow → List ℕ → ℕ → Moment
after P input zero = running [] (opening P input)
after P input (suc k) = go_on P k (after P input k)

-- what a run gives: its status, its output, the number of its turns and the edges that it crossed
pub record Results : Type 0 where
  pub status : Status
  pub output : List ℕ
  pub turns : ℕ
  pub crossed : List Edge

abbrev pub results_at : ℕ → Moment → Option Results
results_at k (running es at) = Some (record { status = Turns; output = at.store.output; turns = k; crossed = es })
results_at k (ended es n t s) = Some (record { status = t; output = s.output; turns = n; crossed = es })
results_at k nowhere = None

-- the results of a run within a budget of turns: one that hasn't ended after them has the status `turns`
abbrev pub run_of : Flow → List ℕ → ℕ → Option Results
run_of P input budget = results_at budget (after P input budget)
