-- Stores that are alike: the slots of live frames stand for the named cells of a run.
use Rattle.std.specs.Prelude.{◌≡◌, List}
use Rattle.csub_semantics.specs.Syntax.{LocalTree, FunctionTree}
use Rattle.csub_semantics.specs.Memory.{State}
use Rattle.csub_semantics.specs.Acts.{Store}
use Rattle.csub_slots.specs.Layout.{StandsFor, live_size, live}
use Rattle.csub_slots.specs.Acts.{FlatStore}

-- states with one input and one output, and cells that are alike
pub record LikeState {C C' : Type 0} (RC : C → C' → Type 0) (s : State C) (s' : State C') : Type 0 where
  pub input : s.input ≡ s'.input
  pub output : s.output ≡ s'.output
  pub cells : RC s.cells s'.cells

-- stores that are alike where frames of these functions are live, the top one first, beside these globals
abbrev pub Like : List LocalTree → List FunctionTree → Store → FlatStore → Type 0
Like gs fs s s' = LikeState (StandsFor (live gs fs) (live_size gs fs)) s s'

-- one input and one output
pub record SameText (s : Store) (s' : FlatStore) : Type 0 where
  pub input : s.input ≡ s'.input
  pub output : s.output ≡ s'.output
