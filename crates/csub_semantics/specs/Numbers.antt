-- Numbers of points, edges and functions: places in the lists of a program, counted from 0.
use Rattle.std.specs.Prelude.{ℕ, ◌≡◌, List, Option, Some, slice_get}
use Rattle.std.specs.Option.{option_map}
use Rattle.std.specs.List.{Contains}
use Rattle.csub_objects.specs.Types.{Name}
use Rattle.csub_semantics.specs.Syntax.{FunctionTree, ProgramTree}
use Rattle.csub_semantics.specs.Points.{PointTree}
use Rattle.csub_semantics.specs.Flows.{PlacedNode, point_list, Edge, edge_list}

-- a point of a program: the name of its function, and the point there
pub record Site : Type 0 where
  pub function : Name
  pub point : PointTree

abbrev pub site : Name → PointTree → Site
site f p = record { function = f; point = p }

abbrev pub site_of : PlacedNode → Site
site_of n = site n.function n.node.point

-- the point with a number
abbrev pub site_at : ProgramTree → ℕ → Option Site
site_at P n = option_map site_of (slice_get (point_list P) n)

-- the edge with a number
abbrev pub edge_at : ProgramTree → ℕ → Option Edge
edge_at P e = slice_get (edge_list P) e

-- the name of the function with a number
abbrev pub name_at : ProgramTree → ℕ → Option Name
name_at P f = option_map (λ (g : FunctionTree). g.name) (slice_get P.functions f)

-- the edge with this number is among the edges that a run crossed
pub record IsCrossed (P : ProgramTree) (crossed : List Edge) (e : ℕ) : Type 0 where
  pub edge : Edge
  pub numbered : edge_at P e ≡ Some edge
  pub among : Contains crossed edge
