-- The points and edges of a program, and the record of functions between a program and all that runs or walks it.
use Rattle.std.specs.Prelude.{ℤ, List, [], ◌∷◌, ◌++◌, map, Option, Some, None, find, if◌then◌else◌, bytes_eq, codes}
use Rattle.std.specs.Option.{option_map}
use Rattle.std.specs.List.{flat_map}
use Rattle.csub_types.specs.declared.kind.IntKind.{IntKind}
use Rattle.csub_semantics.specs.declared.label.EndRule.{EndRule}
use Rattle.csub_semantics.specs.declared.label.EndRule.TheVariants.{Nothing, Value, Main, Start}
use Rattle.csub_objects.specs.Types.{Name, main_name}
use Rattle.csub_semantics.specs.Types.{GlobalTree}
use Rattle.csub_semantics.specs.Labels.{enters, exits, PointLabel}
use Rattle.csub_semantics.specs.Globals.{global_of, named_globals}
use Rattle.csub_semantics.specs.Syntax.{FunctionTree, ProgramTree}
use Rattle.csub_semantics.specs.Points.{PointTree, entry, exit, at, point_eq, ExitTree, next, exit_eq, on_default}
use Rattle.csub_semantics.specs.Successors.{Way, Node, Around, way, enter_list, marks_list, target, nodes_list}

-- `#start`, which calls `main`
abbrev pub start_name : Name
start_name = codes "#start"

-- what the end of a function asks for: `#start` ends the run, `main` gives 0 where it returned nothing (C11 5.1.2.2.3),
-- a void function gives nothing, and any other has to have returned a value
abbrev pub result_rule : Option IntKind → EndRule
result_rule None = Nothing
result_rule (Some kind) = Value

abbrev pub end_rule : Name → Option IntKind → EndRule
end_rule name result = if bytes_eq name start_name then Start else if bytes_eq name main_name then Main else result_rule result

-- past the end of a body, and at a return, control goes to the function's exit; no `break` and no `continue` stands
-- outside a loop or `switch`
abbrev pub to_exit : Around PointTree
to_exit = record { leave = exit; returned = exit; broken = exit; continued = exit }

-- where a `goto` of a function leads
abbrev pub goto_of : FunctionTree → Name → PointTree
goto_of f a = target (marks_list f.body 0 at to_exit) exit a

-- the points of a function: its entry, those of its body in the order of the text, and its exit
abbrev pub function_nodes : FunctionTree → List (Node PointTree)
function_nodes f =
    (record { point = entry; label = enters; span = f.span; ways = way next (enter_list f.body 0 at to_exit) ∷ [] }
    ∷ nodes_list f.body 0 at (goto_of f) to_exit)
    ++ record { point = exit; label = exits (end_rule f.name f.result); span = f.span; ways = [] } ∷ []

-- a point with its function
pub record PlacedNode : Type 0 where
  pub function : Name
  pub node : Node PointTree

abbrev pub placed : Name → Node PointTree → PlacedNode
placed f n = record { function = f; node = n }

abbrev pub points_of : List FunctionTree → List PlacedNode
points_of [] = []
points_of (f ∷ rest) = map (placed f.name) (function_nodes f) ++ points_of rest

-- the points of a program, function by function; a point's number is its place in this list
abbrev pub point_list : ProgramTree → List PlacedNode
point_list P = points_of P.functions

-- an edge: a way out of a point
pub record Edge : Type 0 where
  pub function : Name
  pub from : PointTree
  pub exit : ExitTree

abbrev pub edges_from : PlacedNode → List Edge
edges_from p = map (λ w. record { function = p.function; from = p.node.point; exit = w.exit }) p.node.ways

-- the edges of a program, by their source points and then in order; an edge's number is its place in this list
abbrev pub edge_list : ProgramTree → List Edge
edge_list P = flat_map edges_from (point_list P)

-- what a program is to a run and to a walk: the label of a point, the point to which a way out leads, the case values
-- of a switch, and the globals with their initial contents
pub record Flow : Type 0 where
  pub label : Name → PointTree → Option PointLabel
  pub succ : Name → PointTree → ExitTree → Option PointTree
  pub cases : Name → PointTree → List ℤ
  pub global : Name → Option GlobalTree

-- the function of a name
abbrev pub function_in : List FunctionTree → Name → Option FunctionTree
function_in fs f = find (λ g. bytes_eq g.name f) fs

abbrev pub function_of : ProgramTree → Name → Option FunctionTree
function_of P f = function_in P.functions f

-- a point of a list
abbrev pub node_in : List (Node PointTree) → PointTree → Option (Node PointTree)
node_in ns p = find (λ n. point_eq n.point p) ns

abbrev pub node_of : Option FunctionTree → PointTree → Option (Node PointTree)
node_of None p = None
node_of (Some f) p = node_in (function_nodes f) p

abbrev pub way_in : List (Way PointTree) → ExitTree → Option (Way PointTree)
way_in ws x = find (λ w. exit_eq w.exit x) ws

abbrev pub way_of : Option (Node PointTree) → ExitTree → Option (Way PointTree)
way_of None x = None
way_of (Some n) x = way_in n.ways x

-- the values of the Default among a point's ways out
abbrev pub default_of : ExitTree → List ℤ
default_of (on_default vs) = vs
default_of x = []

abbrev pub cases_in : List (Way PointTree) → List ℤ
cases_in [] = []
cases_in (w ∷ ws) = default_of w.exit ++ cases_in ws

abbrev pub cases_of : Option (Node PointTree) → List ℤ
cases_of None = []
cases_of (Some n) = cases_in n.ways

-- the label of a point: its tree, and the globals that the tree names
abbrev pub labelled : List GlobalTree → Node PointTree → PointLabel
labelled globals n = record { tree = n.label; globals = named_globals globals n.label }

abbrev pub flow_of : ProgramTree → Flow
flow_of P = record {
  label = λ f p. option_map (labelled P.globals) (node_of (function_of P f) p);
  succ = λ f p x. option_map (λ w. w.to) (way_of (node_of (function_of P f) p) x);
  cases = λ f p. cases_of (node_of (function_of P f) p);
  global = λ a. global_of P.globals a;
}
