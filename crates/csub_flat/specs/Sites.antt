-- Points by their numbers, in the words of runs.
use Rattle.std.specs.Prelude.{ℕ, ◌≡◌, ◌<◌, [], length, Option, Some, None}
use Rattle.csub_objects.specs.Types.{Name}
use Rattle.csub_semantics.specs.Labels.{LabelTree}
use Rattle.csub_semantics.specs.Points.{entry}
use Rattle.csub_semantics.specs.Globals.{named_globals}
use Rattle.csub_semantics.specs.Syntax.{ProgramTree}
use Rattle.csub_semantics.specs.Flows.{point_list, flow_of}
use Rattle.csub_semantics.specs.Numbers.{Site, site, site_at}

-- the point with a number; behind the last one stands none
abbrev pub site_or : Option Site → Site
site_or (Some s) = s
site_or None = site [] entry

-- the same, of a number of the program
abbrev pub place_of : ProgramTree → ℕ → Site
place_of P n = site_or (site_at P n)

-- the label of the point with a number has this tree
abbrev pub HasLabel : ProgramTree → ℕ → LabelTree → Type 0
HasLabel P n l =
    let here = place_of P n in
    (flow_of P).label here.function here.point ≡ Some (record { tree = l; globals = named_globals P.globals l })

-- the number of the entry of a function
pub record IsEntry (P : ProgramTree) (f : Name) (n : ℕ) : Type 0 where
  pub point : n < length (point_list P)
  pub entry : site_at P n ≡ Some (site f entry)
