-- What a new run crosses beside an old one whose crossed edges have one image each.
use Rattle.std.specs.Prelude.{ℕ, ◌≡◌, ◌↔◌, List, Some}
use Rattle.csub_semantics.specs.Syntax.{ProgramTree}
use Rattle.csub_semantics.specs.Flows.{Edge, flow_of}
use Rattle.csub_semantics.specs.Numbers.{IsCrossed}
use Rattle.csub_semantics.specs.Runs.{Results, run_of}
use Rattle.csub_semantics.specs.Books.{Dangerous}
use Rattle.call_walk.specs.Lockstep.{CrossesNone}
use Rattle.edge_images.specs.declared.image.Image.TheVariants.{One}
use Rattle.edge_images.specs.Images.{IsImageAt, Says}

-- each crossed edge has one image alone
abbrev pub EachHasOne : ProgramTree → ProgramTree → List Edge → Type 0
EachHasOne P P' crossed = (e : ℕ) → IsCrossed P crossed e → (i : ℕ) × Says (IsImageAt P P' e) (One i)

-- the number is that of an image of a crossed edge
abbrev pub IsImageOfCrossed : ProgramTree → ProgramTree → List Edge → ℕ → Type 0
IsImageOfCrossed P P' crossed i = (e : ℕ) × IsCrossed P crossed e × IsImageAt P P' e i

-- the same status, output and number of turns, and the images of the crossed edges as the crossed edges
pub record CarriesOver (P P' : ProgramTree) (r r' : Results) : Type 0 where
  pub status : r.status ≡ r'.status
  pub output : r.output ≡ r'.output
  pub turns : r.turns ≡ r'.turns
  pub crossed : (i : ℕ) → IsCrossed P' r'.crossed i ↔ IsImageOfCrossed P P' r.crossed i

-- where an old run crosses no dangerous edge, and no edge that hasn't one image alone, the new run is carried over from it
abbrev pub RunsCarryOver : ProgramTree → ProgramTree → Type 0
RunsCarryOver P P' =
    (input : List ℕ) (budget : ℕ) (r : Results) → run_of (flow_of P) input budget ≡ Some r →
    CrossesNone (Dangerous (flow_of P) (flow_of P')) r.crossed → EachHasOne P P' r.crossed →
    (r' : Results) × (run_of (flow_of P') input budget ≡ Some r') × CarriesOver P P' r r'
