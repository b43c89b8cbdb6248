-- The row of the edges that a run crossed.
use Rattle.std.specs.Prelude.{ℕ, List, map, Bool, ◌&&◌, Option, Some, None, bytes_eq}
use Rattle.std.specs.List.{list_any}
use Rattle.csub_semantics.specs.Syntax.{ProgramTree}
use Rattle.csub_semantics.specs.Points.{point_eq, exit_eq}
use Rattle.csub_semantics.specs.Flows.{Edge, edge_list}
use Rattle.csub_semantics.specs.Numbers.{edge_at}

abbrev pub edge_eq : Edge → Edge → Bool
edge_eq d e = bytes_eq d.function e.function && (point_eq d.from e.from && exit_eq d.exit e.exit)

-- whether an edge is among those that were crossed
abbrev pub is_among : List Edge → Edge → Bool
is_among es d = list_any (edge_eq d) es

-- of each edge of the program, by its number, whether it was crossed
abbrev pub crossed_row : ProgramTree → List Edge → List Bool
crossed_row P es = map (is_among es) (edge_list P)

-- the edge that a turn crosses, by its number, if it crosses one
abbrev pub edge_of : ProgramTree → Option ℕ → Option Edge
edge_of P None = None
edge_of P (Some e) = edge_at P e
