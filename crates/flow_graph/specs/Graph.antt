-- What the graph of a program is: its functions and points in the program's order, with numbers in place of names.
use Rattle.std.specs.Prelude.{ℕ, ◌≡◌, ◌+◌, ◌^◌, ◌<◌, List, [], ◌∷◌, ◌++◌, map, length, replicate, Option, Some, sum_by, All}
use Rattle.std.specs.Prelude.{slice_index_or}
use Rattle.std.specs.Option.{option_map}
use Rattle.csub_text.specs.declared.span.Span.{Span}
use Rattle.csub_semantics.specs.declared.types.GlobalVar.{GlobalVar}
use Rattle.csub_objects.specs.Types.{Name}
use Rattle.csub_semantics.specs.Types.{global_tree}
use Rattle.csub_semantics.specs.Labels.{LabelTree, label_tree}
use Rattle.csub_semantics.specs.Points.{PointTree, entry, exit, point_tree, exit_tree}
use Rattle.csub_semantics.specs.Syntax.{FunctionTree, ProgramTree}
use Rattle.csub_semantics.specs.Successors.{Node, Way, way}
use Rattle.csub_semantics.specs.Flows.{PlacedNode, point_list, Edge}
use Rattle.csub_semantics.specs.Numbers.{Site, site, site_at, edge_at, name_at}
use Rattle.csub_core.specs.Valid.{IsValid}
use Rattle.flow_graph.specs.declared.node.GraphWay.{GraphWay}
use Rattle.flow_graph.specs.declared.node.GraphPoint.{GraphPoint}
use Rattle.flow_graph.specs.declared.node.GraphFunction.{GraphFunction}

-- what contracts see of a graph: its functions and its points, each by its number, and the globals
abbrev pub Tables : Type 0
Tables = List GraphFunction × List GraphPoint × List GlobalVar

abbrev pub function_count : Tables → ℕ
function_count g = length g.0

abbrev pub point_count : Tables → ℕ
point_count g = length g.1

-- an edge is a way out of a point
abbrev pub way_count : GraphPoint → ℕ
way_count p = length p.node.ways.items

abbrev pub edge_count : Tables → ℕ
edge_count g = sum_by way_count g.1

-- how many ways out the point with a number has; none where no point has the number
abbrev pub way_count_at : Tables → ℕ → ℕ
way_count_at g n = slice_index_or (map way_count g.1) n 0

-- the point that the edge with a number leaves
abbrev pub source_at : ProgramTree → ℕ → Option Site
source_at P e = option_map (λ (x : Edge). site x.function x.from) (edge_at P e)

-- a point of a function, with its ways out by the points to which they lead
pub record NamedNode : Type 0 where
  pub point : PointTree
  pub label : LabelTree
  pub span : Span
  pub ways : List (Way (Option Site))

-- a point of a program with the name of its function
pub record NamedPoint : Type 0 where
  pub function : Option Name
  pub node : NamedNode

-- a function with its entry and its exit
pub record NamedFunction : Type 0 where
  pub name : Name
  pub start : Option Site
  pub exit : Option Site

-- what the program has for the numbers of a way out, a point and a function of a graph
abbrev pub way_at : ProgramTree → GraphWay → Way (Option Site)
way_at P w = way (exit_tree w.exit) (site_at P w.to)

abbrev pub point_at : ProgramTree → GraphPoint → NamedPoint
point_at P p = record {
  function = name_at P p.function;
  node =
      record {
        point = point_tree p.node.point;
        label = label_tree p.node.label;
        span = p.node.span;
        ways = map (way_at P) p.node.ways.items;
      };
}

abbrev pub function_at : ProgramTree → GraphFunction → NamedFunction
function_at P f = record { name = f.name; start = site_at P f.start; exit = site_at P f.exit }

-- what they are in the program
abbrev pub way_of : Name → Way PointTree → Way (Option Site)
way_of f w = way w.exit (Some (site f w.to))

abbrev pub node_of : Name → Node PointTree → NamedNode
node_of f n = record { point = n.point; label = n.label; span = n.span; ways = map (way_of f) n.ways }

abbrev pub point_of : PlacedNode → NamedPoint
point_of n = record { function = Some n.function; node = node_of n.function n.node }

abbrev pub function_of : FunctionTree → NamedFunction
function_of f = record { name = f.name; start = Some (site f.name entry); exit = Some (site f.name exit) }

-- the graph of a valid program: its functions, points and globals are the program's, in the program's order
pub record IsGraphOf (g : Tables) (P : ProgramTree) : Type 0 where
  pub valid : IsValid P
  pub functions : map (function_at P) g.0 ≡ map function_of P.functions
  pub points : map (point_at P) g.1 ≡ map point_of (point_list P)
  pub globals : map global_tree g.2 ≡ P.globals

-- some valid program has this graph
abbrev pub HasProgram : Tables → Type 0
HasProgram g = (P : ProgramTree) × IsGraphOf g P

-- each number is that of a function or a point of the graph, and all numbers are small
pub record IsClosed (g : Tables) : Type 0 where
  pub few_functions : function_count g < 2 ^ 30
  pub few_points : point_count g < 2 ^ 30
  pub few_edges : edge_count g < 2 ^ 30
  pub functions : All (λ f. (f.start < point_count g) × (f.exit < point_count g)) g.0
  pub points : All (λ p. p.function < function_count g) g.1
  pub ways : All (λ p. All (λ w. w.to < point_count g) p.node.ways.items) g.1

-- the number of each point's first edge, e edges standing before
abbrev pub firsts_of : List GraphPoint → ℕ → List ℕ
firsts_of [] e = []
firsts_of (p ∷ rest) e = e ∷ firsts_of rest (e + way_count p)

-- the number of each edge's source point, the first point having the number n
abbrev pub sources_of : List GraphPoint → ℕ → List ℕ
sources_of [] n = []
sources_of (p ∷ rest) n = replicate (way_count p) n ++ sources_of rest (n + 1)
