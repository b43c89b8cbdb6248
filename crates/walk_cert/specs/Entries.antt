-- Where functions of one name begin in another program.
use Rattle.std.specs.Prelude.{ℕ, ◌≡◌, List, length, slice_get, Option, Some, MatchOption}
use Rattle.csub_semantics.specs.Points.{PointTree, entry}
use Rattle.csub_semantics.specs.Syntax.{ProgramTree}
use Rattle.csub_semantics.specs.Numbers.{Site, site, site_at}
use Rattle.flow_graph.specs.Graph.{Tables, IsGraphOf, point_count}

-- the entry of the new function that has the name of the old graph's function in which the point n stands; none where no
-- new point stands in such a function
abbrev pub IsEntryFor : Tables → Tables → ℕ → Option ℕ → Type 0
IsEntryFor g g' n found =
    (P P' : ProgramTree) (s : Site) → IsGraphOf g P → IsGraphOf g' P' → site_at P n ≡ Some s →
    MatchOption found ((m : ℕ) (p : PointTree) → site_at P' m ≡ Some (site s.function p) → ⊥) (λ e. site_at P' e ≡ Some (site s.function entry))

-- by each point of the old graph, that entry
pub record AreEntries (g g' : Tables) (row : List (Option ℕ)) : Type 0 where
  pub points : length row ≡ point_count g
  pub each : (n : ℕ) (found : Option ℕ) → slice_get row n ≡ Some found → IsEntryFor g g' n found
